-- What is said of schedules in the making, for the netlist, the board, the chips and the routes that they are made from.
-- Source: this project.
use Rattle.std.specs.Prelude.{◌+◌, ℕ, Bool, List, length}
use Rattle.vw_net.specs.declared.cell.Cell.{Cell}
use Rattle.vw_plan.specs.declared.wire.Hop.{Hop}
use Rattle.vw_pipe.specs.declared.draft.Draft.{Draft}
use Rattle.vw_pipe.specs.declared.given.Given.{Given}
use Rattle.vw_pipe.specs.Steps.FinishedSchedules.{IsTasksDone, cell_microcycle}
use Rattle.vw_pipe.specs.Steps.Drafts.{DoesTask, IsFitDraft, IsDraftReady, IsUntouched}
use Rattle.vw_pipe.specs.Steps.Leads.{lead_so_far, usable_so_far}

-- how many nets there are
abbrev pub net_count : Given → ℕ
net_count given = given.ordered.now.flat.inputs + length given.ordered.now.flat.cells

-- the lead of a net at a node
abbrev pub lead_for : Given → List (List Hop) → List ℕ → ℕ → ℕ → ℕ
lead_for given hops leads node net = lead_so_far given.ordered.now.flat given.board.now given.chip_of.now given.routes.now hops leads node net

-- the microcycle from which on a node can use a net
abbrev pub usable_for : Given → List (List Hop) → List ℕ → ℕ → ℕ → ℕ
usable_for given hops leads node net = usable_so_far given.ordered.now.flat given.board.now given.chip_of.now given.routes.now hops leads node net

-- the microcycle at which what a latch reads is usable; 0 for a gate
abbrev pub cell_microcycle_for : Given → Draft → ℕ → Cell → ℕ
cell_microcycle_for given draft number cell = cell_microcycle given.ordered.now.flat given.board.now given.chip_of.now given.routes.now draft.hops.items draft.leads.items number cell

-- nothing is done yet
abbrev pub IsUntouchedFor : Given → Draft → Type 0
IsUntouchedFor given draft = IsUntouched given.ordered.now given.board.now given.routes.now draft

-- a draft is as long as it has to be, and its microcycles are early
abbrev pub IsFitFor : Given → Draft → Type 0
IsFitFor given draft = IsFitDraft given.ordered.now given.board.now given.routes.now draft

-- what a task needs of a draft
abbrev pub IsReadyFor : Given → Bool → ℕ → Draft → Type 0
IsReadyFor given sends place draft = IsDraftReady given.ordered.now given.board.now given.routes.now sends place draft

-- what a task makes of a draft
abbrev pub DoesFor : Given → Bool → ℕ → Draft → Draft → Type 0
DoesFor given sends place old new = DoesTask given.ordered.now given.board.now given.chip_of.now given.routes.now sends place old new

-- all is done but the period
abbrev pub IsDoneFor : Given → Draft → Type 0
IsDoneFor given draft = IsTasksDone given.ordered.now given.board.now given.chip_of.now given.routes.now draft
