-- What the words of a command line spell: a keyword, names of files, and then settings.
use Rattle.std.specs.Prelude.{ℕ, max, min, ltb, Bool, true, false, List, [], ◌∷◌, map, take, codes, Option, Some, None, option_map, option_and_then, unwrap_or}
use Rattle.std.specs.List.{find}
use Rattle.vw_words.specs.Forms.{Place, keyword, any, name, bit, number, part, part_number, part_count, Setting, Form}
use Rattle.vw_words.specs.Matched.{has_form, first_wrong}
use Rattle.vw_words.specs.Values.{names_given, name_given, bit_given, number_given, number_or_zero}
use Rattle.vw_courses.specs.declared.forms.Verb.{Verb}
use Rattle.vw_courses.specs.declared.forms.Verb.TheVariants as verbs

-- a command with its files and settings; or none, and the number of the first word, from 1, that no command has there
pub data Spelled : Type 0 where
  sim : (design stimulus : List ℕ) (unknown : Bool) (until : Option (List ℕ)) (probes : List (List ℕ)) → Spelled
  wave : (design stimulus : List ℕ) (unknown : Bool) (until : Option (List ℕ)) (probes : List (List ℕ)) → Spelled
  grade : (design stimulus : List ℕ) (workers : ℕ) (unknown : Bool) (share : Option (ℕ × ℕ)) → Spelled
  replay : (design stimulus state : List ℕ) (until : Option (List ℕ)) (probes : List (List ℕ)) → Spelled
  replay_wave : (design stimulus state : List ℕ) (until : Option (List ℕ)) (probes : List (List ℕ)) → Spelled
  nets : (design : List ℕ) (probes : List (List ℕ)) → Spelled
  check : (design board plan : List ℕ) (probes : List (List ℕ)) → Spelled
  plan : (design board : List ℕ) (chips : Option (List ℕ)) (probes : List (List ℕ)) → Spelled
  run : (design board stimulus : List ℕ) (given : Option (List ℕ)) (workers : ℕ) (unknown : Bool) (until : Option (List ℕ)) (probes : List (List ℕ)) → Spelled
  demo : (cells workers : ℕ) → Spelled
  save : (design board stimulus : List ℕ) (given : Option (List ℕ)) (workers : ℕ) (unknown : Bool) (every : Option ℕ) (until : Option (List ℕ)) → Spelled
  resume : (design board state stimulus : List ℕ) (given : Option (List ℕ)) (workers : ℕ) (until : Option (List ℕ)) (probes : List (List ℕ)) → Spelled
  report : (design board : List ℕ) (given : Option (List ℕ)) (probes : List (List ℕ)) → Spelled
  emit : (design board : List ℕ) (given : Option (List ℕ)) → Spelled
  help : Spelled
  version : Spelled
  nothing : (place : ℕ) → Spelled

-- ---- settings

-- the value that free latches start at
abbrev pub unknown_setting : Setting
unknown_setting = record { name = codes "unknown"; value = bit; times = 1 }

-- a net that is watched
abbrev pub probe_setting : Setting
probe_setting = record { name = codes "probe"; value = name; times = 64 }

-- the plan to run by
abbrev pub plan_setting : Setting
plan_setting = record { name = codes "plan"; value = name; times = 1 }

-- the chip of each cell, for which a plan is made
abbrev pub chips_setting : Setting
chips_setting = record { name = codes "chips"; value = name; times = 1 }

-- how many workers run the nodes of a board, or grade a design
abbrev pub workers_setting : Setting
workers_setting = record { name = codes "workers"; value = number 1 64; times = 1 }

-- behind how many clocks a state is kept
abbrev pub every_setting : Setting
every_setting = record { name = codes "every"; value = number 1 4294967295; times = 1 }

-- the state from which a design goes on
abbrev pub replay_setting : Setting
replay_setting = record { name = codes "replay"; value = name; times = 1 }

-- a net that ends a run, behind the first clock in which it is 1
abbrev pub until_setting : Setting
until_setting = record { name = codes "until"; value = name; times = 1 }

-- a share of the faults that are graded, of so many
abbrev pub part_setting : Setting
part_setting = record { name = codes "part"; value = part 65536; times = 1 }

-- the value of latches that start unknown: 0 where none is given
abbrev pub unknown_given : List (List ℕ) → Bool
unknown_given settings = bit_given unknown_setting false settings

-- where no word says so, no net ends the run
abbrev pub until_given : List (List ℕ) → Option (List ℕ)
until_given settings = name_given until_setting settings

-- the form lets no more probes through
abbrev pub probes_given : List (List ℕ) → List (List ℕ)
probes_given settings = take 64 (names_given probe_setting settings)

-- where no word says how many, there are four; the form lets no other number through than 1 to 64
abbrev pub workers_given : List (List ℕ) → ℕ
workers_given settings = max 1 (number_given workers_setting 4 settings)

-- where no word says so, no state is kept on the way; the form lets no other number through than 1 to 4294967295
abbrev pub every_given : List (List ℕ) → Option ℕ
every_given settings = option_map (λ word. max 1 (number_or_zero word)) (name_given every_setting settings)

-- how many shares a text spells; the form lets no other number through than 1 to 65536
abbrev pub shares_in : List ℕ → ℕ
shares_in text = max 1 (min (part_count text) 65536)

-- the number of the share that it spells; the form lets no other through than 1 to how many there are
abbrev pub share_in : List ℕ → ℕ
share_in text = max 1 (min (part_number text) (shares_in text))

-- where no word says so, all faults are graded
abbrev pub share_given : List (List ℕ) → Option (ℕ × ℕ)
share_given settings = option_map (λ text. (share_in text, shares_in text)) (name_given part_setting settings)

-- the number of cells that a word spells: the form lets no other number through than 1 to 20000
abbrev pub cells_given : List ℕ → ℕ
cells_given word = max 1 (min (number_or_zero word) 20000)

-- ---- what words of the form of a command spell

-- a run from the start values, or from a state on: then each latch starts as the state has it
abbrev pub sim_with : Option (List ℕ) → List ℕ → List ℕ → Bool → Option (List ℕ) → List (List ℕ) → Spelled
sim_with None design stimulus unknown until probes = sim design stimulus unknown until probes
sim_with (Some state) design stimulus unknown until probes = replay design stimulus state until probes

-- and so its wave
abbrev pub wave_with : Option (List ℕ) → List ℕ → List ℕ → Bool → Option (List ℕ) → List (List ℕ) → Spelled
wave_with None design stimulus unknown until probes = wave design stimulus unknown until probes
wave_with (Some state) design stimulus unknown until probes = replay_wave design stimulus state until probes

-- what words of the form of `sim` spell
abbrev pub sim_of : List (List ℕ) → Option Spelled
sim_of (verb ∷ design ∷ stimulus ∷ settings) =
    Some (sim_with (name_given replay_setting settings) design stimulus (unknown_given settings) (until_given settings) (probes_given settings))
sim_of words = None

-- what words of the form of `wave` spell
abbrev pub wave_of : List (List ℕ) → Option Spelled
wave_of (verb ∷ design ∷ stimulus ∷ settings) =
    Some (wave_with (name_given replay_setting settings) design stimulus (unknown_given settings) (until_given settings) (probes_given settings))
wave_of words = None

-- what words of the form of `grade` spell
abbrev pub grade_of : List (List ℕ) → Option Spelled
grade_of (verb ∷ design ∷ stimulus ∷ settings) = Some (grade design stimulus (workers_given settings) (unknown_given settings) (share_given settings))
grade_of words = None

-- what words of the form of `nets` spell
abbrev pub nets_of : List (List ℕ) → Option Spelled
nets_of (verb ∷ design ∷ settings) = Some (nets design (probes_given settings))
nets_of words = None

-- what words of the form of `check` spell
abbrev pub check_of : List (List ℕ) → Option Spelled
check_of (verb ∷ design ∷ board ∷ its_plan ∷ settings) = Some (check design board its_plan (probes_given settings))
check_of words = None

-- what words of the form of `plan` spell
abbrev pub plan_of : List (List ℕ) → Option Spelled
plan_of (verb ∷ design ∷ board ∷ settings) = Some (plan design board (name_given chips_setting settings) (probes_given settings))
plan_of words = None

-- what words of the form of `report` spell
abbrev pub report_of : List (List ℕ) → Option Spelled
report_of (verb ∷ design ∷ board ∷ settings) = Some (report design board (name_given plan_setting settings) (probes_given settings))
report_of words = None

-- what words of the form of `run` spell
abbrev pub run_of : List (List ℕ) → Option Spelled
run_of (verb ∷ design ∷ board ∷ stimulus ∷ settings) =
    Some (run design board stimulus (name_given plan_setting settings) (workers_given settings) (unknown_given settings) (until_given settings) (probes_given settings))
run_of words = None

-- what words of the form of `save` spell
abbrev pub save_of : List (List ℕ) → Option Spelled
save_of (verb ∷ design ∷ board ∷ stimulus ∷ settings) =
    Some (save design board stimulus (name_given plan_setting settings) (workers_given settings) (unknown_given settings) (every_given settings) (until_given settings))
save_of words = None

-- each latch starts as the state has it, so the setting of free latches has no effect
abbrev pub resume_of : List (List ℕ) → Option Spelled
resume_of (verb ∷ design ∷ board ∷ state ∷ stimulus ∷ settings) =
    Some (resume design board state stimulus (name_given plan_setting settings) (workers_given settings) (until_given settings) (probes_given settings))
resume_of words = None

-- what words of the form of `emit` spell
abbrev pub emit_of : List (List ℕ) → Option Spelled
emit_of (verb ∷ design ∷ board ∷ settings) = Some (emit design board (name_given plan_setting settings))
emit_of words = None

-- what words of the form of `demo` spell
abbrev pub demo_of : List (List ℕ) → Option Spelled
demo_of (verb ∷ cells ∷ settings) = Some (demo (cells_given cells) (workers_given settings))
demo_of words = None

-- what words of the form of a command spell
abbrev pub spelled_as : Verb → List (List ℕ) → Option Spelled
spelled_as verbs.Sim words = sim_of words
spelled_as verbs.Wave words = wave_of words
spelled_as verbs.Grade words = grade_of words
spelled_as verbs.Nets words = nets_of words
spelled_as verbs.Check words = check_of words
spelled_as verbs.Plan words = plan_of words
spelled_as verbs.Report words = report_of words
spelled_as verbs.Run words = run_of words
spelled_as verbs.Save words = save_of words
spelled_as verbs.Resume words = resume_of words
spelled_as verbs.Emit words = emit_of words
spelled_as verbs.Demo words = demo_of words
spelled_as verbs.Help words = Some help
spelled_as verbs.Version words = Some version

-- ---- forms

-- a command and the form of its words: a keyword, its files, and its settings
pub record CommandForm : Type 0 where
  pub verb : Verb
  pub form : Form

-- the form of a command: its word, its places, and its settings
abbrev pub form_with : List ℕ → List Place → List Setting → Form
form_with word places settings = record { places = keyword word ∷ places; settings = settings }

-- the place of a file: any name
abbrev pub file : Place
file = any name

-- the commands, each with its form
abbrev pub commands : List CommandForm
commands =
    record { verb = verbs.Sim; form = form_with (codes "sim") (file ∷ file ∷ []) (unknown_setting ∷ replay_setting ∷ until_setting ∷ probe_setting ∷ []) }
    ∷ record { verb = verbs.Wave; form = form_with (codes "wave") (file ∷ file ∷ []) (unknown_setting ∷ replay_setting ∷ until_setting ∷ probe_setting ∷ []) }
    ∷ record { verb = verbs.Grade; form = form_with (codes "grade") (file ∷ file ∷ []) (workers_setting ∷ unknown_setting ∷ part_setting ∷ []) }
    ∷ record { verb = verbs.Nets; form = form_with (codes "nets") (file ∷ []) (probe_setting ∷ []) }
    ∷ record { verb = verbs.Check; form = form_with (codes "check") (file ∷ file ∷ file ∷ []) (probe_setting ∷ []) }
    ∷ record { verb = verbs.Plan; form = form_with (codes "plan") (file ∷ file ∷ []) (chips_setting ∷ probe_setting ∷ []) }
    ∷ record { verb = verbs.Report; form = form_with (codes "report") (file ∷ file ∷ []) (plan_setting ∷ probe_setting ∷ []) }
    ∷ record {
      verb = verbs.Run;
      form = form_with (codes "run") (file ∷ file ∷ file ∷ []) (plan_setting ∷ workers_setting ∷ unknown_setting ∷ until_setting ∷ probe_setting ∷ []);
    }
    ∷ record {
      verb = verbs.Save;
      form = form_with (codes "save") (file ∷ file ∷ file ∷ []) (plan_setting ∷ workers_setting ∷ unknown_setting ∷ every_setting ∷ until_setting ∷ []);
    }
    ∷ record {
      verb = verbs.Resume;
      form = form_with (codes "resume") (file ∷ file ∷ file ∷ file ∷ []) (plan_setting ∷ workers_setting ∷ unknown_setting ∷ until_setting ∷ probe_setting ∷ []);
    }
    ∷ record { verb = verbs.Emit; form = form_with (codes "emit") (file ∷ file ∷ []) (plan_setting ∷ []) }
    ∷ record { verb = verbs.Demo; form = form_with (codes "demo") (any (number 1 20000) ∷ []) (workers_setting ∷ []) }
    ∷ record { verb = verbs.Help; form = form_with (codes "--help") [] [] }
    ∷ record { verb = verbs.Version; form = form_with (codes "--version") [] [] }
    ∷ []

-- the command of a table whose form words have
abbrev pub found_verb : List (List ℕ) → List CommandForm → Option Verb
found_verb words table = option_map (λ command. command.verb) (find (λ command. has_form words command.form) table)

-- the forms of all commands
abbrev pub command_forms : List Form
command_forms = map (λ command. command.form) commands

-- what words spell: this command, or none, and the place of the first wrong word
abbrev pub spelled_by : List (List ℕ) → Spelled
spelled_by words =
    unwrap_or (option_and_then (λ verb. spelled_as verb words) (found_verb words commands)) (nothing (first_wrong command_forms words))

-- whether a command needs a runtime: what runs a board with several workers does, and each grading, saving and resumption
abbrev pub needs_runtime : Spelled → Bool
needs_runtime (run design board stimulus given workers unknown until probes) = ltb 1 workers
needs_runtime (demo cells workers) = ltb 1 workers
needs_runtime (grade design stimulus workers unknown share) = true
needs_runtime (save design board stimulus given workers unknown every until) = true
needs_runtime (resume design board state stimulus given workers until probes) = true
needs_runtime (sim design stimulus unknown until probes) = false
needs_runtime (wave design stimulus unknown until probes) = false
needs_runtime (replay design stimulus state until probes) = false
needs_runtime (replay_wave design stimulus state until probes) = false
needs_runtime (nets design probes) = false
needs_runtime (check design board given probes) = false
needs_runtime (plan design board chips probes) = false
needs_runtime (report design board given probes) = false
needs_runtime (emit design board given) = false
needs_runtime help = false
needs_runtime version = false
needs_runtime (nothing place) = false

-- whether a command runs a board with several workers, whose words go over links
abbrev pub uses_links : Spelled → Bool
uses_links (run design board stimulus given workers unknown until probes) = ltb 1 workers
uses_links (demo cells workers) = ltb 1 workers
uses_links (save design board stimulus given workers unknown every until) = ltb 1 workers
uses_links (resume design board state stimulus given workers until probes) = ltb 1 workers
uses_links (sim design stimulus unknown until probes) = false
uses_links (wave design stimulus unknown until probes) = false
uses_links (grade design stimulus workers unknown share) = false
uses_links (replay design stimulus state until probes) = false
uses_links (replay_wave design stimulus state until probes) = false
uses_links (nets design probes) = false
uses_links (check design board given probes) = false
uses_links (plan design board chips probes) = false
uses_links (report design board given probes) = false
uses_links (emit design board given) = false
uses_links help = false
uses_links version = false
uses_links (nothing place) = false
