use Rattle.std.proofs.Common.{◌++◌, List, Bool, length, refl, sym, subst}
use Rattle.std.proofs.lemmas.List.{drop_at}
use Rattle.vw_net.specs.Cells.{start_values}
use Rattle.vw_net.specs.History.{state_after}
use Rattle.vw_trace.specs.FlatTrace.{flat_trace, trace_from}
use Rattle.vw_resume.specs.Joined.{IsJoined}
use Rattle.vw_resume.proofs.laws.replays_join.Goals as goal

-- the rows that are passed over are the first
pub returns : goal.returns
returns c = λ probes unknown flat rows more.
    subst (λ (these : List (List Bool)). IsJoined (flat_trace probes unknown flat rows) (trace_from probes (length rows) (state_after flat (start_values unknown flat.cells) rows) flat these) (flat_trace probes unknown flat (rows ++ more)))
    (sym (drop_at rows more (length rows) refl)) (c.traces_join.ensures.with_probes_from_the_start probes unknown flat rows more)
