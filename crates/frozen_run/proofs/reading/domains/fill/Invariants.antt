use Rattle.std.proofs.Common.{◌≡◌, ℕ, ◌-◌, ◌≤◌, ◌++◌, length, take}
use Rattle.cloak_model.specs.Fields.{first_in, parts, after_parts}
use Rattle.frozen_state.specs.FrozenFault.{domain_fields, after_domain}
use Rattle.frozen_run.specs.Reading.{domains_in}
use Rattle.frozen_run.proofs.reading.domains.fill.Given as goal

abbrev pub invariant-loop-d : goal.invariant-loop-d
invariant-loop-d l =
    let body = l.body in
    let n : ℕ = length l.fn.into in
    record {
      long : length l.into ≡ n;
      value : take l.d l.into ++ domains_in body l.d (n - l.d) l.at ≡ domains_in body 0 n l.from;
      fields : first_in body (parts (domain_fields body l.frames) (after_domain body) (n - l.d) l.at)
          ≡ first_in body (parts (domain_fields body l.frames) (after_domain body) n l.from);
      end : after_parts (after_domain body) (n - l.d) l.at ≡ after_parts (after_domain body) n l.from;
      within : l.at ≤ length body;
    }
