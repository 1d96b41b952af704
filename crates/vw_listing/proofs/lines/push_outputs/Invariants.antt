-- what is written, and the outputs that are left
use Rattle.std.proofs.Common.{◌≡◌, ◌++◌, [], ◌∷◌, drop}
use Rattle.std.specs.Prelude.{slice_index_or}
use Rattle.vw_net.specs.Gathered.{listed}
use Rattle.vw_text.specs.Physical.{lines_text}
use Rattle.vw_listing.specs.Netlist.{output_line, output_lines}
use Rattle.vw_listing.proofs.lines.push_outputs.Given as goal

abbrev pub invariant-loop-place : goal.invariant-loop-place
invariant-loop-place l =
    l.text.items ++ lines_text (listed (λ place net. output_line net (slice_index_or (l.root ++ l.probes) place []) ∷ []) l.place (drop l.place l.nets))
    ≡ l.fn.text.items ++ lines_text (output_lines (l.root ++ l.probes) l.nets)
