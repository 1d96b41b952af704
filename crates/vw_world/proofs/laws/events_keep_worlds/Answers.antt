use Rattle.vw_world.specs.Worlds.{start_world}
use Rattle.vw_world.proofs.KeptWorlds.{event_kept, played_kept, start_kept}
use Rattle.vw_world.proofs.laws.events_keep_worlds.Goals as goal

pub returns : goal.returns
returns c = record {
  start = start_kept;
  event = λ job world node kept. event_kept job world node kept;
  events = λ job events. played_kept job (start_world job) events (start_kept job);
}
