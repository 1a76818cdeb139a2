use Rattle.std.proofs.Common.{◌∷◌, length, ◌<◌, sym, ap, subst, ◌∙◌}
use Rattle.std.specs.List.Sorted.{IsPermutation}
use Rattle.shadow_fold.specs.Entries.{IsWithin}
use Rattle.shadow_fold.specs.Table.{is_known, with_live}
use Rattle.multi_shadow.proofs.Tables.{room, room_frames, unknown_in_room}
use Rattle.multi_shadow.proofs.shadows.Shadows.insert.Goals as goal

pub put-requires-clause-unknown : goal.put-requires-clause-unknown
put-requires-clause-unknown c =
    let e = c.args.e in
    ap (is_known e.regime e.page e.kind) c.make_room.ensures
    ∙ unknown_in_room e.regime e.page e.kind c.args.self.now c.requires.unknown

pub put-requires-clause-within : goal.put-requires-clause-within
put-requires-clause-within c =
    subst (λ n. IsWithin n c.args.e) (sym (ap (λ t. t.frames) c.make_room.ensures ∙ room_frames c.args.self.now))
    c.requires.within

pub put-requires-clause-room : goal.put-requires-clause-room
put-requires-clause-room c = subst (λ t. length t.live < 1024) (sym c.make_room.ensures) (room c.args.self.now)

pub returns-clause-live : goal.returns-clause-live
returns-clause-live c =
    subst (λ t. IsPermutation (c.args.e ∷ t.live) c.put.new.self.live) c.make_room.ensures c.put.ensures.live

pub returns-clause-rest : goal.returns-clause-rest
returns-clause-rest c = c.put.ensures.rest ∙ ap (with_live c.put.new.self.live) c.make_room.ensures
