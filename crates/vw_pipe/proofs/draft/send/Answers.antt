use Rattle.std.proofs.Common.{◌≡◌, ◌<◌, ◌≤◌, ◌+◌, ◌*◌, ◌^◌, ◌∙◌, ◌∷◌, ◌++◌, [], ℕ, List, length, get_or, map, max, set, sym, ap, ap₂, refl, subst, arith}
use Rattle.std.specs.List.{All}
use Rattle.std.proofs.lemmas.Grind.{get_or-set_at}
use Rattle.std.proofs.lemmas.List.{map-set}
use Rattle.vw_plan.specs.declared.wire.Hop.{Hop}
use Rattle.vw_plan.specs.Lead.{after_last, arrival as arrival_of}
use Rattle.vw_plan.specs.Routes.{steps_of}
use Rattle.vw_pipe.specs.Steps.SentHops.{AreSent, hop_takes}
use Rattle.vw_pipe.proofs.StepsOf.{steps_long}
use Rattle.vw_pipe.proofs.draft.send.Goals as goal

pub returns-in_ok-hops : goal.returns-in_ok-hops
returns-in_ok-hops c =
    let old = c.args.draft.now in
    let given = c.args.given.now in
    let board = given.board.now in
    let sent = c.in_ok-hops.hops.items in
    let number = c.args.number in
    let ready = c.args.ready in
    let steps = steps_of c.args.route.now.nodes in
    let nodes : c.args.route.now.nodes ≡ c.in-Some.first.now ∷ c.in-Some.further.now = sym c.nodes.ensures ∙ c.in-Some.ensures.cases.0 in
    let many = ap (λ (all : List ℕ). length (steps_of all)) nodes in
    let as_many = steps_long c.in-Some.first.now c.in-Some.further.now in
    let at : get_or (set old.hops.items number c.of.result) number [] ≡ sent =
    get_or-set_at old.hops.items number number c.of.result [] refl c.requires.number ∙ c.of.ensures in
    let arrival : c.after_last-arrival.result ≡ after_last board.links sent =
    c.after_last-arrival.ensures.value ∙ ap₂ after_last given.has_links c.deref.ensures.value in
    let own_arrival = arrival ∙ ap (after_last board.links) (sym c.of.ensures) in
    let sent_over = subst (λ (all : List ℕ). AreSent board old.table.taken ready (steps_of all) sent) (sym nodes) c.in_ok-hops.ensures.ok.0 in
    let IsSoon : Hop → Type 0 = λ hop. arrival_of board.links hop + 1 ≤ ready + length steps * (2 ^ 30 + 16) in
    let all_soon : All IsSoon sent = λ number hop within. omega (arith, c.in_ok-hops.ensures.soon number hop within, many, as_many) in
    record {
      leads = refl;
      hops = ap (set old.hops.items number) (c.of.ensures ∙ sym at);
      sent = subst (AreSent board old.table.taken ready steps) (sym at) sent_over;
      soon = subst (All IsSoon) (sym at) all_soon;
      arrivals =
          ap₂ (λ (list : List ℕ) (value : ℕ). set list number value) c.requires.arrivals own_arrival
          ∙ sym (map-set (after_last board.links) old.hops.items number c.of.result);
      widths = c.in_ok-hops.ensures.ok.2;
      taken = c.in_ok-hops.ensures.ok.1 ∙ ap (λ (list : List Hop). old.table.taken ++ map (hop_takes board) list) (sym at);
      last = c.max-draft.ensures ∙ ap (max old.after) (arrival ∙ ap (after_last board.links) (sym at));
    }

pub send_along-requires-clause-few : goal.send_along-requires-clause-few
send_along-requires-clause-few c =
    let nodes : c.args.route.now.nodes ≡ c.in-Some.first.now ∷ c.in-Some.further.now = sym c.nodes.ensures ∙ c.in-Some.ensures.cases.0 in
    omega (arith, c.requires.few, ap (λ (all : List ℕ). length (steps_of all)) nodes, steps_long c.in-Some.first.now c.in-Some.further.now)

pub after_last-arrival-requires : goal.after_last-arrival-requires
after_last-arrival-requires c =
    let nodes : c.args.route.now.nodes ≡ c.in-Some.first.now ∷ c.in-Some.further.now = sym c.nodes.ensures ∙ c.in-Some.ensures.cases.0 in
    let many = ap (λ (all : List ℕ). length (steps_of all)) nodes in
    let as_many = steps_long c.in-Some.first.now c.in-Some.further.now in
    let few : length c.in-Some.further.now < 2 ^ 30 = omega (arith, c.requires.few, many, as_many) in
    let early : All (λ hop. hop.at ≤ 2 ^ 62) c.in_ok-hops.hops.items = λ number hop within.
    omega (arith, c.in_ok-hops.ensures.soon number hop within, few, c.requires.early) in
    subst (All (λ hop. hop.at ≤ 2 ^ 62)) (sym c.deref.ensures.value) early
