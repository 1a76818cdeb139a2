use Rattle.cloak_model.specs.Items.{item_of}
use Rattle.kernel_report.proofs.PutFacts.{then, text_is}
use Rattle.record_json.specs.Objects.{item_members}
use Rattle.record_json.proofs.Placed.{placed_line}
use Rattle.record_json.proofs.objects.put_object.Goals as goal

pub returns : goal.returns
returns g c =
    text_is (then c.put_place-so_far.ensures (then c.put_item_members-so_far.ensures c.text.ensures))
    (placed_line c.args.place (item_members (item_of c.args.item.now)))
