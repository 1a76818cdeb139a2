use Rattle.std.proofs.Common.{arith}
use Rattle.command_words.proofs.NumberFacts.{past_limit}
use Rattle.command_words.proofs.number.number_up_to.Goals as goal

pub returns-in_default : goal.returns-in_default
returns-in_default c = past_limit _ c.loop-digit.value c.loop-digit.digit-index _ _ c.as_bytes-digits.ensures.value
    c.loop-digit.invariant.value c.loop-digit-test.true
    (let tens = c.in-Some.ensures.1 in omega (arith, tens, c.if-tens-limit.true, c.if-limit-tens.false))

pub returns-in_default-2 : goal.returns-in_default-2
returns-in_default-2 c = past_limit _ c.loop-digit.value c.loop-digit.digit-index _ _ c.as_bytes-digits.ensures.value
    c.loop-digit.invariant.value c.loop-digit-test.true
    (let tens = c.in-Some.ensures.1 in omega (arith, tens, c.if-tens-limit.false))

pub returns-in_default-3 : goal.returns-in_default-3
returns-in_default-3 c = past_limit _ c.loop-digit.value c.loop-digit.digit-index _ _ c.as_bytes-digits.ensures.value
    c.loop-digit.invariant.value c.loop-digit-test.true
    (let large = c.in_default.ensures in let fits = c.ranges.limit.fits in omega (arith, large, fits))
