-- What is seen of the shelf and the sink in memory, and how they are set.
use Rattle.std.specs.Prelude.{◌≡◌}
use Rattle.vw_outside.specs.declared.memory_shelf.MemShelf.{MemShelf}
use Rattle.vw_outside.specs.declared.memory_sink.MemSink.{MemSink}
use Rattle.vw_outside.specs.Reads.{SeenShelf}
use Rattle.vw_outside.specs.Writes.{SeenSink, seen_bytes}
use Rattle.vw_outside.specs.HeldTexts.{seen_files}

abbrev pub seen_shelf : MemShelf → SeenShelf
seen_shelf shelf = seen_files shelf.files.items shelf.others

abbrev pub seen_sink : MemSink → SeenSink
seen_sink sink = seen_bytes sink.written.items sink.faults

-- the calls that are to fail, and the most bytes of a call, stay
pub record KeepsShelfScript (before after : MemShelf) : Type 0 where
  pub failing : after.failing.items ≡ before.failing.items
  pub most : after.most ≡ before.most

pub record KeepsSinkScript (before after : MemSink) : Type 0 where
  pub failing : after.failing.items ≡ before.failing.items
  pub most : after.most ≡ before.most
