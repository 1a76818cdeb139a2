-- Worked records: no step, and damaged ones.
use Rattle.std.proofs.Common.{◌≡◌, [], ◌∷◌, Some, refl, arith}
use Rattle.cloak_model.specs.Items as item
use Rattle.cloak_model.specs.Exchange.{item_bytes, steps_items}
use Rattle.cloak_model.specs.Record.{IsRecord}
use Rattle.cloak_model.specs.declared.record.Stage.TheVariants.{Opening, Steps, Over}
use Rattle.cloak_model.specs.declared.record.Wrong.TheVariants.{Cut, NoTag, NoNumber, More}
use Rattle.cloak_model.specs.RecordFault.{wrong_behind, wrong_item}

-- the run of no step: 14 bytes
no_step : IsRecord (0x43 ∷ 0x4c ∷ 0x4f ∷ 0x41 ∷ 0x4b ∷ 0x52 ∷ 0x45 ∷ 0x43 ∷ 0x11 ∷ 0 ∷ 0 ∷ 0 ∷ 0 ∷ 0x12 ∷ []) (item.Close 0 ∷ item.End ∷ [])
unfolding item_bytes steps_items
no_step = record {
  spells = refl;
  fields = (omega arith, (tt, tt));
  exchange = record { opening = []; steps = []; closing = []; order = refl; opening_ciphers = tt; of_steps = tt; closing_ciphers = tt };
}

-- End right after the magic may not stand there
end_first : wrong_behind Opening (0x12 ∷ []) ≡ Some NoTag
unfolding wrong_behind wrong_item
end_first = refl

-- the magic alone
magic_alone : wrong_behind Opening [] ≡ Some Cut
unfolding wrong_behind
magic_alone = refl

-- a first step of number 2
second_first : wrong_behind Opening (0x10 ∷ 2 ∷ 0 ∷ 0 ∷ 0 ∷ []) ≡ Some NoNumber
unfolding wrong_behind wrong_item
second_first = refl

-- the tag 0x13 is none
no_tag : wrong_behind Opening (0x13 ∷ 1 ∷ 0 ∷ 0 ∷ 0 ∷ []) ≡ Some NoTag
unfolding wrong_behind wrong_item
no_tag = refl

-- a Put whose width is none, cut after the width, and one that is cut before it
bad_width : wrong_behind (Steps 1) (0x02 ∷ 0 ∷ 0 ∷ 0 ∷ 0x80 ∷ 3 ∷ []) ≡ Some NoTag
unfolding wrong_behind wrong_item
bad_width = refl

cut_put : wrong_behind (Steps 1) (0x02 ∷ 0 ∷ 0 ∷ 0 ∷ 0x80 ∷ []) ≡ Some Cut
unfolding wrong_behind wrong_item
cut_put = refl

-- a byte after End
one_more : wrong_behind Over (0 ∷ []) ≡ Some More
unfolding wrong_behind
one_more = refl
