-- What the statuses of `demo` say, from those of the run that it is.
use Rattle.std.proofs.Common.{◌≡◌, ◌⊎◌, ⊎_elim, ◌<◌, ℕ, List, None, false, [], ◌∷◌, Ok, Err, refl, sym, ◌∙◌, ap, subst, inl, inr, arith}
use Rattle.std.specs.Prelude.{◌≢◌, unwrap_or}
use Rattle.vw_outside.specs.Told.{held}
use Rattle.vw_outside.specs.Writes.{SeenSink, appended, seen_bytes, WrotePart, FailedAfterPart}
use Rattle.vw_course.specs.declared.unfinished.Unfinished.TheVariants.{ReadFault, WriteFault, NoMemory, Refused}
use Rattle.vw_course.specs.Outside.{SeenOutside, with_all}
use Rattle.vw_course.specs.Endings.{Ends, IsCallOf, memory_line}
use Rattle.vw_course.specs.Follows.{Answer, Follows}
use Rattle.vw_course.specs.Goes.{seen_call}
use Rattle.vw_course.proofs.OnTexts.{done_inside, failed_inside, memory_inside, part_inside, no_read, refused_inside, texts_before, write_inside}
use Rattle.vw_gen.specs.Design.{design_text}
use Rattle.vw_gen.specs.Stimulus.{stimulus_text}
use Rattle.vw_gen.specs.Summary.{summary}
use Rattle.vw_course.specs.Vocabulary.{IsNoStop}
use Rattle.vw_course.specs.Places.{IsOneOf}
use Rattle.vw_course.specs.Statuses.{IsOneMore, HasStatus}
use Rattle.vw_courses.specs.Messages.{vocabulary, Call, CallWork}
use Rattle.vw_courses.specs.Demo.{board_name, design_name, generated, stimulus_name}
use Rattle.vw_courses.specs.Commands.{trace_of, netlist_trace, demo_course, demo_run}
use Rattle.vw_statuses.specs.LinkTraffic.{CarriesAll}
use Rattle.vw_statuses.specs.PlannedStatuses.{AreSpelled}
use Rattle.vw_statuses.specs.DemoStatuses.{demo_texts, AreAccepted, DemoStatuses, HasSummary, WritesSummary, IsRunOfTexts, IsRefusedAs}
use Rattle.vw_statuses.proofs.HeadlineLaw.{headline}
use Rattle.vw_statuses.specs.RunStatuses.{IsReady, RunStatuses}
use Rattle.vw_courses.specs.MayPlan.{made_here}
use Rattle.vw_courses.proofs.TextsOfDesigns.{traces_agree}
use Rattle.vw_statuses.proofs.RunLaws.{run_table}

-- a write that failed was counted
fault_counted : (text : List ℕ) (before after : SeenSink) → FailedAfterPart text before after → IsOneMore before.faults after.faults
fault_counted text before after (count, within, is) = ap (λ (sink : SeenSink). sink.faults) is

module _ (cells workers : ℕ) (call : Call) where
  -- what is seen before the run: the texts, an empty trace, and the links
  abbrev inside : SeenOutside vocabulary.Word
  inside = texts_before vocabulary (generated cells) (summary cells) (λ name. 0) (seen_bytes [] 0) call.before call.after

  module _ (run : Call) (is_run : IsCallOf (demo_run workers) run) (before_is : run.before ≡ inside) where
    run_statuses : RunStatuses [] (trace_of false) design_name board_name made_here stimulus_name false workers false run
    run_statuses = run_table [] (trace_of false) (netlist_trace 0 false) (traces_agree [] false) design_name board_name made_here stimulus_name false workers false run (omega arith) is_run

    held_there : (name : List ℕ) → run.before.shelf.told name ≡ held (generated cells name)
    held_there name = ap (λ (o : SeenOutside vocabulary.Word). o.shelf.told name) before_is

    run_of_texts : run.after.links ≡ call.after.links → IsRunOfTexts cells workers call run
    run_of_texts after = record {
      texts = held_there;
      links = ap (λ (o : SeenOutside vocabulary.Word). o.links) before_is;
      links_after = after;
      statuses = run_statuses;
    }

    on_links_by : run.status ≡ 0 → CarriesAll [] false workers false (design_text cells) (stimulus_text cells) (AreSpelled [] made_here (demo_texts cells)) run
    on_links_by status = run_statuses.on_links (demo_texts cells) (stimulus_text cells) (record { design_held = held_there design_name; board_held = held_there board_name; plan_held = tt }) (held_there stimulus_name) status

  -- the run that ends so, and what stands at err before it and after it
  abbrev run_to : SeenOutside vocabulary.Word → SeenSink → ℕ → Call
  run_to after err status = seen_call inside call.err_before after err status

  -- the run over the texts was done with this text, of which the summary is such
  summary_of : (work : CallWork) → Follows (demo_run workers) inside (with_all work inside) (Ok tt) → (Is : List ℕ → Type 0)
      → Is (summary cells work.text) → HasSummary cells Is
  summary_of work follows Is is =
      let run = run_to (with_all work inside) call.err_before 0 in
      let is_run : IsCallOf (demo_run workers) run = record { answer = Ok tt; follows = follows; ends = (refl, refl) } in
      let trace = headline [] None design_name board_name made_here stimulus_name workers false run is_run (design_text cells) (stimulus_text cells) refl refl refl in
      record {
        spelled = trace.spelled;
        rows = trace.rows;
        design_is = trace.design_is;
        rows_are = trace.rows_are;
        wrote = subst Is (ap (λ (sink : SeenSink). summary cells (unwrap_or sink.told work.text)) trace.wrote) is;
      }

  -- where the texts are accepted, the run ends with one of these statuses
  run_ends : (run : Call) → RunStatuses [] (trace_of false) design_name board_name made_here stimulus_name false workers false run
      → ((name : List ℕ) → run.before.shelf.told name ≡ held (generated cells name))
      → AreAccepted cells → (run.status ≡ 0) ⊎ ((run.status ≡ 7) ⊎ ((run.status ≡ 8) ⊎ (run.status ≡ 9)))
  run_ends run statuses there all =
      let ready : IsReady [] (trace_of false) design_name board_name made_here stimulus_name false workers false run (design_text cells) (stimulus_text cells) = record {
        texts = demo_texts cells;
        design_is = refl;
        planned_held = record { design_held = there design_name; board_held = there board_name; plan_held = tt };
        stimulus_held = there stimulus_name;
        have = all.fit;
      } in
      ⊎_elim (λ done. inl done.status) (λ rest. inr (⊎_elim (λ read. inl read.status) (λ later. inr (⊎_elim (λ write. inl write.status) (λ memory. inr memory.status) later)) rest))
      (statuses.traced.ends.accepted (record { texts = design_text cells; s = stimulus_text cells; its = all.its; rows = all.rows }) (record { ready = ready; are = all.are }))

  -- so does the demo, but no read of it fails
  ends_so : (run : Call) → IsRunOfTexts cells workers call run → ((run.status ≡ call.status) ⊎ ((call.status ≡ 8) × (run.status ≡ 9))) → call.status ≢ 7
      → AreAccepted cells → (call.status ≡ 0) ⊎ ((call.status ≡ 8) ⊎ (call.status ≡ 9))
  ends_so run is (inr eight) not_read all = inr (inl eight.0)
  ends_so run is (inl same) not_read all =
      ⊎_elim (λ zero_is. inl (sym same ∙ zero_is))
      (⊎_elim (λ seven. absurd (not_read (sym same ∙ seven))) (λ rest. inr (⊎_elim (λ eight. inl (sym same ∙ eight)) (λ nine. inr (sym same ∙ nine)) rest)))
      (run_ends run is.statuses is.texts all)

  -- 8 comes where a fault was counted at out
  completes : (call.status ≡ 8 → HasSummary cells (λ text. FailedAfterPart text call.before.out call.after.out))
      → (IsOneMore call.before.out.faults call.after.out.faults → ⊥)
      → (call.status ≡ 0) ⊎ ((call.status ≡ 8) ⊎ (call.status ≡ 9)) → (call.status ≡ 0) ⊎ (call.status ≡ 9)
  completes failed none (inl zero_is) = inl zero_is
  completes failed none (inr (inl eight)) = absurd (none (fault_counted _ call.before.out call.after.out (failed eight).wrote))
  completes failed none (inr (inr nine)) = inr nine

  abbrev Ended : Call → Type 0
  Ended run = (run.status ≡ call.status) ⊎ ((call.status ≡ 8) × (run.status ≡ 9))

  abbrev Wrote : (List ℕ → SeenSink → SeenSink → Type 0) → Type 0
  Wrote Leaves = HasSummary cells (λ text. Leaves text call.before.out call.after.out)

  abbrev Links : Call → Type 0
  Links run = CarriesAll [] false workers false (design_text cells) (stimulus_text cells) (AreSpelled [] made_here (demo_texts cells)) run

  -- the demo has the statuses of its run, but for 8
  comes_by : (run : Call) → HasStatus (1 ∷ 3 ∷ 6 ∷ 5 ∷ []) run → Ended run → HasStatus (1 ∷ 3 ∷ 6 ∷ 5 ∷ []) call
  comes_by run has (inl same) = subst (IsOneOf (0 ∷ 7 ∷ 8 ∷ 9 ∷ 1 ∷ 3 ∷ 6 ∷ 5 ∷ [])) same has
  comes_by run has (inr eight) = inr (inr (inl eight.0))

  -- the table, from the run and from what is known of its end
  table_by : (run : Call) → IsRunOfTexts cells workers call run → Ended run → call.status ≢ 7 → (call.status ≡ 0 → WritesSummary cells call)
      → (call.status ≡ 0 → Links run) → (call.status ≡ 8 → Wrote FailedAfterPart)
      → (call.status ≡ 9 → (call.after.out ≡ call.before.out) ⊎ Wrote WrotePart)
      → (0 < call.status → IsNoStop call.status → IsRefusedAs call run) → DemoStatuses cells workers call
  table_by run is status no_read done links failed memory refused = record {
    run = run;
    is = is;
    status = status;
    done = done;
    on_links = links;
    write_fault = failed;
    want_of_memory = memory;
    accepted = ends_so run is status no_read;
    complete = λ all none. completes failed none (ends_so run is status no_read all);
    refused = refused;
    comes = comes_by run is.statuses.comes status;
    no_read_fault = no_read;
  }

  done_table : Follows (demo_course cells workers) call.before call.after (Ok tt)
      → Ends vocabulary (Ok tt) call.err_before call.err_after call.status → DemoStatuses cells workers call
  done_table follows (zero_is, silent) =
      let found = done_inside vocabulary (generated cells) (summary cells) (λ name. 0) (seen_bytes [] 0) call.before call.after (demo_run workers) follows in
      let run = run_to (with_all found.0 inside) call.err_after 0 in
      let is_run : IsCallOf (demo_run workers) run = record { answer = Ok tt; follows = found.1; ends = (refl, silent) } in
      table_by run (run_of_texts run is_run refl (sym (ap (λ (o : SeenOutside vocabulary.Word). o.links) found.2))) (inl (sym zero_is)) (λ seven. absurd (omega (arith, seven, zero_is)))
      (λ status. summary_of found.0 found.1 (λ text. call.after.out ≡ appended call.before.out text) (ap (λ (o : SeenOutside vocabulary.Word). o.out) found.2))
      (λ status. on_links_by run is_run refl refl) (λ status. absurd (omega (arith, status, zero_is))) (λ status. absurd (omega (arith, status, zero_is))) (λ some few. absurd (omega (arith, some, zero_is)))

  refused_table : (reason : vocabulary.Reason) → Follows (demo_course cells workers) call.before call.after (Err (Refused reason))
      → Ends vocabulary (Err (Refused reason)) call.err_before call.err_after call.status → DemoStatuses cells workers call
  refused_table reason follows ends =
      let found = refused_inside vocabulary (generated cells) (summary cells) (λ name. 0) (seen_bytes [] 0) call.before call.after reason (demo_run workers) follows in
      let run = run_to inside call.err_after call.status in
      let is_run : IsCallOf (demo_run workers) run = record { answer = Err (Refused reason); follows = found.0; ends = ends } in
      table_by run (run_of_texts run is_run refl (sym (ap (λ (o : SeenOutside vocabulary.Word). o.links) found.1))) (inl refl) (λ seven. absurd (omega (arith, seven, ends.0, vocabulary.few reason)))
      (λ status. absurd (omega (arith, status, ends.0, vocabulary.some reason))) (λ status. absurd (omega (arith, status, ends.0, vocabulary.some reason)))
      (λ status. absurd (omega (arith, status, ends.0, vocabulary.few reason))) (λ status. absurd (omega (arith, status, ends.0, vocabulary.few reason)))
      (λ some few. record { leaves = found.1; message = refl; message_before = refl })

  memory_table : Follows (demo_course cells workers) call.before call.after (Err NoMemory)
      → Ends vocabulary (Err NoMemory) call.err_before call.err_after call.status → DemoStatuses cells workers call
  memory_table follows ends =
      let found = memory_inside vocabulary (generated cells) (summary cells) (λ name. 0) (seen_bytes [] 0) call.before call.after (demo_run workers) follows in
      let run = run_to found.0 call.err_after call.status in
      let is_run : IsCallOf (demo_run workers) run = record { answer = Err NoMemory; follows = found.1; ends = ends } in
      let part = part_inside vocabulary (generated cells) (summary cells) (λ name. 0) (seen_bytes [] 0) call.before call.after (demo_run workers) follows in
      table_by run (run_of_texts run is_run refl found.2) (inl refl) (λ seven. absurd (omega (arith, seven, ends.0)))
      (λ status. absurd (omega (arith, status, ends.0))) (λ status. absurd (omega (arith, status, ends.0))) (λ status. absurd (omega (arith, status, ends.0)))
      (λ status. ⊎_elim (λ same. inl (ap (λ (o : SeenOutside vocabulary.Word). o.out) same)) (λ some. inr (summary_of some.0 some.1 (λ text. WrotePart text call.before.out call.after.out) some.2.0)) part)
      (λ some few. absurd (omega (arith, few, ends.0)))

  write_table : Follows (demo_course cells workers) call.before call.after (Err WriteFault)
      → Ends vocabulary (Err WriteFault) call.err_before call.err_after call.status → DemoStatuses cells workers call
  write_table follows ends =
      let found = write_inside vocabulary (generated cells) (summary cells) (λ name. 0) (seen_bytes [] 0) call.before call.after (demo_run workers) follows in
      let run = run_to found.0 (appended call.err_before memory_line) 9 in
      let is_run : IsCallOf (demo_run workers) run = record { answer = Err NoMemory; follows = found.1; ends = (refl, inl refl) } in
      let some = failed_inside vocabulary (generated cells) (summary cells) (λ name. 0) (seen_bytes [] 0) call.before call.after (demo_run workers) follows in
      table_by run (run_of_texts run is_run refl found.2) (inr (ends.0, refl)) (λ seven. absurd (omega (arith, seven, ends.0)))
      (λ status. absurd (omega (arith, status, ends.0))) (λ status. absurd (omega (arith, status, ends.0)))
      (λ status. summary_of some.0 some.1 (λ text. FailedAfterPart text call.before.out call.after.out) some.2.0) (λ status. absurd (omega (arith, status, ends.0))) (λ some few. absurd (omega (arith, few, ends.0)))

  by_answer : (answer : Answer vocabulary) → Follows (demo_course cells workers) call.before call.after answer
      → Ends vocabulary answer call.err_before call.err_after call.status → DemoStatuses cells workers call
  by_answer (Ok done) follows ends = done_table follows ends
  by_answer (Err (Refused reason)) follows ends = refused_table reason follows ends
  by_answer (Err NoMemory) follows ends = memory_table follows ends
  by_answer (Err WriteFault) follows ends = write_table follows ends
  by_answer (Err (ReadFault file)) follows ends =
      absurd (no_read vocabulary (generated cells) (summary cells) (λ name. 0) (seen_bytes [] 0) call.before call.after file (demo_run workers) follows)

  pub demo_table : IsCallOf (demo_course cells workers) call → DemoStatuses cells workers call
  demo_table is = by_answer is.answer is.follows is.ends
