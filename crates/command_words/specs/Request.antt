-- What a request stands for.
use Rattle.command_words.specs.Command as spec
use Rattle.command_words.specs.declared.request.Request.{Request}
use Rattle.command_words.specs.declared.request.Request.TheVariants.{Faulty, Run, View, Solo, SoloOver, Gen, Demo, Stats, Upgrade, Store, Freeze, Thaw}
use Rattle.command_words.specs.declared.run_request.Randomness.{Randomness}
use Rattle.command_words.specs.declared.run_request.Randomness.TheVariants.{Numbered, FromFile}
use Rattle.command_words.specs.declared.run_request.RunRequest.{RunRequest}
use Rattle.command_words.specs.declared.run_request.StatsRequest.{StatsRequest}
use Rattle.command_words.specs.declared.record_request.RecordRequest.{RecordRequest}
use Rattle.command_words.specs.declared.record_request.OldFiles.{OldFiles}
use Rattle.command_words.specs.declared.record_request.SoloRequest.{SoloRequest}
use Rattle.command_words.specs.declared.record_request.SoloOverRequest.{SoloOverRequest}
use Rattle.command_words.specs.declared.generated_request.GenRequest.{GenRequest}
use Rattle.command_words.specs.declared.generated_request.DemoRequest.{DemoRequest}
use Rattle.command_words.specs.declared.upgrade_request.UpgradeRequest.{UpgradeRequest}
use Rattle.command_words.specs.declared.store_request.StoreFiles.{StoreFiles}
use Rattle.command_words.specs.declared.store_request.StoreRequest.{StoreRequest}
use Rattle.command_words.specs.declared.frozen_request.FreezeFiles.{FreezeFiles}
use Rattle.command_words.specs.declared.frozen_request.FreezeRequest.{FreezeRequest}
use Rattle.command_words.specs.declared.frozen_request.ThawFiles.{ThawFiles}
use Rattle.command_words.specs.declared.frozen_request.ThawRequest.{ThawRequest}

abbrev pub randomness_of : Randomness → spec.Randomness
randomness_of (Numbered number) = spec.Numbered number
randomness_of (FromFile name) = spec.FromFile name.now

abbrev pub asked_of_run : RunRequest → spec.Asked
asked_of_run run = spec.Run run.bundle.now run.record_name.now run.steps (randomness_of run.randomness)

abbrev pub asked_of_view : RecordRequest → spec.Asked
asked_of_view files = spec.View files.bundle.now files.record_name.now

abbrev pub asked_of_solo : SoloRequest → spec.Asked
asked_of_solo solo = spec.Solo solo.domain solo.files.bundle.now solo.files.record_name.now

abbrev pub old_of : OldFiles → spec.OldFiles
old_of old = record { old_name = old.old_name.now; secret_name = old.secret_name.now; counter = old.counter }

abbrev pub asked_of_solo_over : SoloOverRequest → spec.Asked
asked_of_solo_over over =
    spec.SoloOver over.solo.domain over.solo.files.bundle.now over.solo.files.record_name.now (old_of over.old)

abbrev pub asked_of_gen : GenRequest → spec.Asked
asked_of_gen generated = spec.Gen generated.number generated.bundle.now

abbrev pub asked_of_demo : DemoRequest → spec.Asked
asked_of_demo demo = spec.Demo demo.number demo.steps

abbrev pub asked_of_stats : StatsRequest → spec.Asked
asked_of_stats stats = spec.Stats stats.bundle.now stats.steps (randomness_of stats.randomness)

abbrev pub asked_of_upgrade : UpgradeRequest → spec.Asked
asked_of_upgrade upgrade = spec.Upgrade upgrade.old_name.now upgrade.new_name.now

abbrev pub names_of : StoreFiles → spec.StoreNames
names_of files = record {
  bundle = files.bundle.now;
  record_name = files.record_name.now;
  old_name = files.old_name.now;
  new_name = files.new_name.now;
  next_name = files.next_name.now;
  secret_name = files.secret_name.now;
}

abbrev pub asked_of_store : StoreRequest → spec.Asked
asked_of_store store = spec.Store (names_of store.files) store.counter store.steps (randomness_of store.randomness)

abbrev pub freeze_names_of : FreezeFiles → spec.FreezeNames
freeze_names_of files = record {
  bundle = files.bundle.now;
  record_name = files.record_name.now;
  state_name = files.state_name.now;
  vectors_name = files.vectors_name.now;
}

abbrev pub asked_of_freeze : FreezeRequest → spec.Asked
asked_of_freeze freeze = spec.Freeze (freeze_names_of freeze.files) freeze.steps (randomness_of freeze.randomness)

abbrev pub thaw_names_of : ThawFiles → spec.ThawNames
thaw_names_of files = record {
  bundle = files.bundle.now;
  record_name = files.record_name.now;
  state_name = files.state_name.now;
}

abbrev pub asked_of_thaw : ThawRequest → spec.Asked
asked_of_thaw thaw = spec.Thaw (thaw_names_of thaw.files) thaw.steps (randomness_of thaw.randomness)

abbrev pub asked_of : Request → spec.Asked
asked_of (Faulty fault) = spec.Faulty fault
asked_of (Run run) = asked_of_run run
asked_of (View files) = asked_of_view files
asked_of (Solo solo) = asked_of_solo solo
asked_of (SoloOver over) = asked_of_solo_over over
asked_of (Gen generated) = asked_of_gen generated
asked_of (Demo demo) = asked_of_demo demo
asked_of (Stats stats) = asked_of_stats stats
asked_of (Upgrade upgrade) = asked_of_upgrade upgrade
asked_of (Store store) = asked_of_store store
asked_of (Freeze freeze) = asked_of_freeze freeze
asked_of (Thaw thaw) = asked_of_thaw thaw
