use Rattle.std.proofs.Common.{◌≡◌, ◌≤◌, ℕ, Bool, false, List, [], ◌∷◌, ◌++◌, length, length-take, take, Option, Some, None, refl, sym, ◌∙◌, ap, ap₂, subst, inl, inr, arith, rules}
use Rattle.std.specs.Prelude.{codes, option_map}
use Rattle.vw_outside.specs.declared.held.Held.{Held}
use Rattle.vw_outside.specs.Told.{held}
use Rattle.vw_outside.specs.Fronts.{IsFront}
use Rattle.vw_outside.specs.HeldTexts.{told_in}
use Rattle.vw_outside.specs.Memory.{seen_shelf, seen_sink}
use Rattle.vw_outside.specs.Writes.{SeenSink, appended, faulted, seen_bytes}
use Rattle.vw_course.specs.Outside.{SeenOutside, Work, with_all}
use Rattle.vw_course.specs.Endings.{IsReported, IsCallOf}
use Rattle.vw_course.specs.Statuses.{LeavesPart, Statuses}
use Rattle.vw_course.specs.Goes.{seen_outside}
use Rattle.vw_prog.specs.declared.word.Word.{Word}
use Rattle.vw_courses.specs.Words.{Spelled, spelled_by}
use Rattle.vw_courses.specs.Words as words
use Rattle.vw_courses.specs.Messages.{reason_line, Call, CallWork}
use Rattle.vw_courses.specs.Commands.{sim_course, course_of, trace_of}
use Rattle.vw_statuses.specs.TracedStatuses.{designs, HoldTexts}
use Rattle.vw_statuses.specs.SimStatuses.{SimStatuses}
use Rattle.vw_example.specs.SimulateStatuses.{IsSimulated, HasBadDesign, HasBadRows, SimulateStatuses}
use Rattle.vw_example.proofs.simulate.Goals as goal

-- what two files of these names hold
record HoldBoth (files : List Held) (design stimulus : List ℕ) : Type 0 where
  design_held : told_in files (codes "design") ≡ held design
  stimulus_held : told_in files (codes "stimulus") ≡ held stimulus

hold_both : (files : List Held) (first second : Held) (design stimulus : List ℕ) → files ≡ first ∷ second ∷ [] → first.name ≡ codes "design" → second.name ≡ codes "stimulus"
    → first.bytes.items ≡ design → second.bytes.items ≡ stimulus → HoldBoth files design stimulus
hold_both files first second design stimulus are first_is second_is d s =
    rw (are, first_is, second_is) (record { design_held = ap held d; stimulus_held = ap held s })

-- the bytes of a sink that had none before a text was appended
told_text : (before after : SeenSink) (text out : List ℕ) → before.told ≡ Some [] → after.told ≡ Some out → after.told ≡ (appended before text).told → out ≡ text
told_text before after text out none some same =
    let told : Some out ≡ Some text = sym some ∙ same ∙ ap (option_map (λ so_far. so_far ++ text)) none in cc

whole_text : (before after : SeenSink) (text out : List ℕ) → before.told ≡ Some [] → after.told ≡ Some out → after ≡ appended before text → out ≡ text
whole_text before after text out none some same = told_text before after text out none some (ap (λ (sink : SeenSink). sink.told) same)

-- so many of the first bytes of a text are a front of it
first_bytes : (text out : List ℕ) (count : ℕ) → count ≤ length text → out ≡ take count text → IsFront out text
first_bytes text out count within same =
    let size : length out ≡ count = omega (arith, ap length same, length-take count text, within) in
    (same ∙ ap (λ (n : ℕ). take n text) (sym size), omega (arith, size, within))

-- the same of a part of a text, whether a write failed behind it or not
front_of_text : (before after : SeenSink) (text out : List ℕ) → before.told ≡ Some [] → after.told ≡ Some out → LeavesPart text before after → IsFront out text
front_of_text before after text out none some (inl (count, within, same)) =
    first_bytes text out count within (whole_text before after (take count text) out none some same)
front_of_text before after text out none some (inr (count, within, same)) =
    first_bytes text out count within (told_text before after (take count text) out none some (ap (λ (sink : SeenSink). sink.told) same))

-- what was reported to a sink without bytes, where no write to it failed
whole_line : (before after : SeenSink) (line err : List ℕ) → before ≡ seen_bytes [] 0 → after ≡ seen_bytes err 0 → IsReported line before after → err ≡ line
whole_line before after line err none some (inl same) =
    whole_text before after line err (ap (λ (sink : SeenSink). sink.told) none) (ap (λ (sink : SeenSink). sink.told) some) same
whole_line before after line err none some (inr (count, most, same)) =
    let wrong : 0 ≡ 1 = ap (λ (sink : SeenSink). sink.faults) (sym some ∙ same ∙ ap (λ (sink : SeenSink). faulted (appended sink (take count line))) none) in absurd (omega (arith, wrong))

-- what the words spell
abbrev its_sim : Spelled
its_sim = words.sim (codes "design") (codes "stimulus") false None []

spells_sim : spelled_by (codes "sim" ∷ codes "design" ∷ codes "stimulus" ∷ []) ≡ its_sim
spells_sim = refl

-- three words, each by its letters
three_words : {one two three : List ℕ} {first second third : List ℕ} → one ≡ first → two ≡ second → three ≡ third → (one ∷ two ∷ three ∷ []) ≡ (first ∷ second ∷ third ∷ [])
three_words p q r = λ i. p i ∷ q i ∷ r i ∷ []

module _ (design stimulus out err : List ℕ) (call : Call) (hold : HoldTexts (designs [] (codes "design")) (trace_of false) (codes "stimulus") call design stimulus)
    (none : call.before.out.told ≡ Some []) (some : call.after.out.told ≡ Some out) (unsaid : call.err_before ≡ seen_bytes [] 0) (said : call.err_after ≡ seen_bytes err 0)
    (table : SimStatuses [] (trace_of false) (codes "design") (codes "stimulus") call) where
  no_trace : call.after ≡ call.before → out ≡ []
  no_trace same =
      let told : Some out ≡ Some [] = sym some ∙ ap (λ (o : SeenOutside Word). o.out.told) same ∙ none in cc

  line_is : (line : List ℕ) → IsReported line call.err_before call.err_after → err ≡ line
  line_is line reported = whole_line call.err_before call.err_after line err unsaid said reported

  done : call.status ≡ 0 → IsSimulated design stimulus out err
  done is =
      let done = table.traced.ends.done (design, stimulus) hold is in
      let trace = done.is in
      let told : Some err ≡ Some [] = ap (λ (sink : SeenSink). sink.told) (sym said ∙ done.silent ∙ unsaid) in
      record {
        spelled = trace.its;
        rows = trace.rows;
        is = trace.are.spells;
        read = trace.are.rows_are;
        trace = whole_text call.before.out call.after.out done.did.text out none some (ap (λ (o : SeenOutside Word). o.out) done.leaves) ∙ ap (λ (did : CallWork). did.text) trace.is;
        no_message = cc;
      }

  bad_design : call.status ≡ 1 → HasBadDesign design out err
  bad_design is =
      let refused = table.of_design.bad design hold.its_held is in
      record { reason = refused.reason; refused = refused.why; no_trace = no_trace refused.leaves; message = line_is (reason_line refused.reason) refused.message }

  bad_rows : call.status ≡ 5 → HasBadRows design stimulus out err
  bad_rows is =
      let refused = table.traced.no_rows design stimulus hold is in
      let bad = refused.why.2 in
      record {
        spelled = refused.why.0;
        fault = bad.0;
        is = refused.why.1;
        read = bad.2;
        no_trace = no_trace refused.leaves;
        message = line_is (reason_line refused.reason) refused.message ∙ ap reason_line bad.1;
      }

  outcome : Statuses (course_of its_sim) call → SimulateStatuses design stimulus out err call.status
  outcome all = record {
    done = done;
    no_design = bad_design;
    no_rows = bad_rows;
    comes = table.comes;
    part = λ spelled rows is read.
        front_of_text call.before.out call.after.out (trace_of false spelled rows) out none some (table.traced.part (record { texts = design; s = stimulus; its = spelled; rows = rows }) (record { ready = hold; are = record { spells = is; rows_are = read } }));
  }

pub returns : goal.returns
returns c =
    let no_links : Option (ℕ → List Word) = None in
    let call : Call = record {
      before = seen_outside (seen_shelf c.new-shelf.result) (seen_sink c.new-out.result) no_links;
      after = seen_outside (seen_shelf c.alone.new.shelf) (seen_sink c.alone.new.out) no_links;
      err_before = seen_sink c.new-err.result;
      err_after = seen_sink c.alone.new.err;
      status = c.in-Some.status;
    } in
    let words_are : c.deref.result.now ≡ codes "sim" ∷ codes "design" ∷ codes "stimulus" ∷ [] = c.deref.ensures.value ∙ c.in_ok-words.ensures.items ∙ three_words c.in_ok-owned_name-3.ensures c.in_ok-owned_name-4.ensures c.in_ok-owned_name-5.ensures in
    let its_call : IsCallOf (course_of its_sim) call = subst (λ (spelled : Spelled). IsCallOf (course_of spelled) call) (ap spelled_by words_are ∙ spells_sim) (c.in-Some.ensures.called.1 no_links) in
    let files_are : c.new-shelf.result.files.items ≡ c.make.result ∷ c.make-2.result ∷ [] = c.new-shelf.ensures.files ∙ c.in_ok-files.ensures.items in
    let both = hold_both c.new-shelf.result.files.items c.make.result c.make-2.result c.args.design.items c.args.stimulus.items files_are (c.make.ensures.name ∙ c.in_ok-owned_name.ensures) (c.make-2.ensures.name ∙ c.in_ok-owned_name-2.ensures) c.make.ensures.bytes c.make-2.ensures.bytes in
    let copied : c.in_ok-to_vec.field-0.items ≡ c.bytes.result.now = search rules in
    let out : c.alone.new.out.written.items ≡ c.in_ok-to_vec.field-0.items = sym (copied ∙ c.bytes.ensures) in
    let copied_err : c.in_ok-to_vec-2.field-0.items ≡ c.bytes-2.result.now = search rules in
    let err : c.alone.new.err.written.items ≡ c.in_ok-to_vec-2.field-0.items = sym (copied_err ∙ c.bytes-2.ensures) in
    let no_fault : c.alone.new.err.faults ≡ 0 = omega (arith, c.if-err-gt0.false) in
    outcome c.args.design.items c.args.stimulus.items c.in_ok-to_vec.field-0.items c.in_ok-to_vec-2.field-0.items call (record { its_held = both.design_held; stimulus_held = both.stimulus_held })
    (ap Some c.new-out.ensures.written) (ap Some out) (ap₂ seen_bytes c.new-err.ensures.written c.new-err.ensures.faults) (ap₂ seen_bytes err no_fault)
    (c.sim_statuses.ensures [] None (codes "design") (codes "stimulus") false call its_call) (c.call_statuses.ensures its_sim call its_call)
