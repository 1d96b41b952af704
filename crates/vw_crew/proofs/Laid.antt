-- Links that are laid, one after the other.
use Rattle.std.proofs.Common.{◌≡◌, ◌<◌, ◌+◌, ◌==◌, ℕ, Bool, List, length, true, get_or, ap, refl, sym, subst, ◌∙◌, Option, Some, None, arith}
use Rattle.std.specs.Prelude.{option_map, unwrap_or}
use Rattle.std.specs.Option.{is_some}
use Rattle.std.proofs.lemmas.Option.{none-some}
use Rattle.vw_plan.specs.declared.link.Link.{Link}
use Rattle.vw_prog.specs.declared.job.Job.{Job}
use Rattle.vw_prog.specs.Fabric.{AreEndsOf, Carried, SeenPutEnd, SeenTakeEnd, lifted}
use Rattle.vw_prog.specs.Scripts.{script}
use Rattle.vw_node.specs.declared.node.Node.{Node}
use Rattle.vw_crew.specs.Ends.{Has, IsPutOf, IsTakeOf, MayHave, SeenOwn, take_at}
use Rattle.vw_crew.specs.Groups.{Changes, HasOwn, IsOwnOf, SeenGroup, group_node, group_numbers, own_at, relaid}
use Rattle.vw_crew.specs.Laying.{AreHung, HasSameNodes, IsBare, IsHung, carried_on}
use Rattle.vw_crew.proofs.Carried.{carried_more, carried_none, carried_told}
use Rattle.vw_crew.proofs.CrewStays.{mapped_back}
use Rattle.vw_crew.proofs.Places.{placed_apart, placed_long, placed_other}

-- ---- what a node may have

module _ (job : Job) (number : ℕ) where
  pub no_put : IsPutOf job number None
  no_put end is = absurd (none-some end is)

  pub no_take : IsTakeOf job number None
  no_take end is = absurd (none-some end is)

  pub some_put : (tx : SeenPutEnd) → tx.link ≡ number → tx.words ≡ script job number → IsPutOf job number (Some tx)
  some_put tx link words end is = subst (λ (one : SeenPutEnd). (one.link ≡ number) × (one.words ≡ script job number)) (ap (λ (found : Option SeenPutEnd). unwrap_or found end) is) (link, words)

  pub some_take : (rx : SeenTakeEnd) → rx.link ≡ number → rx.words ≡ script job number → IsTakeOf job number (Some rx)
  some_take rx link words end is = subst (λ (one : SeenTakeEnd). (one.link ≡ number) × (one.words ≡ script job number)) (ap (λ (found : Option SeenTakeEnd). unwrap_or found end) is) (link, words)

  pub may_have : (own : SeenOwn) → own.job ≡ job → number < length job.checked.board.links → (put : Option SeenPutEnd) (take : Option SeenTakeEnd) → IsPutOf job number put → IsTakeOf job number take → MayHave own number put take
  may_have own same inside put take put_fits take_fits = record {
    inside = subst (λ (one : Job). number < length one.checked.board.links) (sym same) inside;
    put_fits = subst (λ (one : Job). IsPutOf one number put) (sym same) put_fits;
    take_fits = subst (λ (one : Job). IsTakeOf one number take) (sym same) take_fits;
  }

-- ---- a node's ends of a link are others

module _ (node link : ℕ) (put : Option SeenPutEnd) (take : Option SeenTakeEnd) (old new : List SeenGroup) (changes : Changes node link put take old new) (job : Job) where
  abbrev after : ℕ → SeenOwn → SeenOwn
  after = relaid node link put take

  pub still_bare : IsBare job old → IsBare job new
  still_bare bare = record {
    some = subst (λ (many : ℕ). 0 < many) (sym changes.count) bare.some;
    nodes = λ number there is. bare.nodes number there (sym (changes.nodes number) ∙ is);
    ends = λ number one is.
        let was = mapped_back (after number) (own_at old number) one (sym (changes.ends number) ∙ is) in
        let its = bare.ends number was.0 was.1.0 in
        let now : IsOwnOf job number (after number was.0) = record {
          same_job = its.same_job;
          same_node = its.same_node;
          puts = placed_long link put was.0.puts (number == node) ∙ its.puts;
          takes = placed_long link take was.0.takes (number == node) ∙ its.takes;
        } in
        subst (IsOwnOf job number) was.1.1 now;
    all = λ number inside.
        let had = bare.all number inside in
        let node_there : (there : Node) × (group_node new number ≡ Some there) = (had.0.0, changes.nodes number ∙ had.0.1) in
        let own_there : (own : SeenOwn) × (own_at new number ≡ Some own) = (after number had.1.0, changes.ends number ∙ ap (option_map (after number)) had.1.1) in
        (node_there, own_there);
  }

  abbrev pub still_has : (other : ℕ) → HasOwn job old other → HasOwn job new other
  still_has other has = (after other has.0, changes.ends other ∙ ap (option_map (after other)) has.1, has.2)

  -- another link that was laid still is
  pub still_hung : (keeps : Bool) (other moved from to : ℕ) → (other ≡ link → ⊥) → IsHung job keeps old other moved from to → IsHung job keeps new other moved from to
  still_hung keeps other moved from to apart hung = record {
    putter = still_has from hung.putter;
    put_end = hung.put_end;
    put_is = placed_other link put hung.putter.0.puts (from == node) other apart ∙ hung.put_is;
    sent = hung.sent;
    taker = still_has to hung.taker;
    take_end = hung.take_end;
    take_is = placed_other link take hung.taker.0.takes (to == node) other apart ∙ hung.take_is;
    taken = hung.taken;
    kept = hung.kept;
  }

-- ---- a link is lifted

-- the end at which words are put in is given up first
module _ (job : Job) (keeps : Bool) (groups middle : List SeenGroup) (number moved from to : ℕ) (apart : from ≡ to → ⊥) (hung : IsHung job keeps groups number moved from to) (puts : Changes from number None None groups middle) where
  -- the node that the link reaches still has the other
  abbrev pub taker : HasOwn job middle to
  taker = still_has from number None None groups middle puts job to hung.taker

  pub take_there : take_at taker.0 number ≡ Some hung.take_end
  take_there = ap (λ (places : List (Option SeenTakeEnd)). get_or places number None) (placed_apart number None hung.taker.0.takes to from (λ same. apart (sym same))) ∙ hung.take_is

  -- both belong to the link
  module _ (tx : SeenPutEnd) (rx : SeenTakeEnd) (one : Option SeenTakeEnd) (other : Option SeenPutEnd) (put_had : Has hung.putter.0 number (Some tx) one) (take_had : Has taker.0 number other (Some rx)) where
    put_fits : (tx.link ≡ number) × (tx.words ≡ script job number)
    put_fits = subst (λ (any : Job). IsPutOf any number (Some tx)) hung.putter.2 put_had.put_fits tx refl

    take_fits : (rx.link ≡ number) × (rx.words ≡ script job number)
    take_fits = subst (λ (any : Job). IsTakeOf any number (Some rx)) hung.taker.2 take_had.take_fits rx refl

    rx_is : rx ≡ hung.take_end
    rx_is = ap (λ (found : Option SeenTakeEnd). unwrap_or found rx) (sym take_had.take_is ∙ take_there)

    pub rx_facts : (rx.words ≡ script job number) × (rx.taken ≡ moved)
    rx_facts = (take_fits.1, ap (λ (end : SeenTakeEnd). end.taken) rx_is ∙ hung.taken)

    pub are_ends : (told : Bool) → (told ≡ true → keeps ≡ true) → AreEndsOf number told tx rx
    are_ends told telling = record {
      put_link = put_fits.0;
      take_link = take_fits.0;
      one_script = put_fits.1 ∙ sym take_fits.1;
      kept = λ tells. ap (λ (end : SeenTakeEnd). end.keeps) rx_is ∙ hung.kept ∙ telling tells;
    }

-- the links from one number on are still laid, and the words of those below it are carried
pub record IsLifting (job : Job) (keeps : Bool) (count : ℕ) (moved : ℕ → ℕ) (first groups : List SeenGroup) (before carried : Carried) (done : ℕ) : Type 0 where
  pub hung : AreHung job keeps done count moved groups
  pub nodes : HasSameNodes first groups
  pub numbers : group_numbers groups ≡ group_numbers first
  pub told : is_some carried ≡ is_some before
  pub carried_is : carried ≡ carried_on job done moved before

module _ (job : Job) (keeps : Bool) (count : ℕ) (moved : ℕ → ℕ) (first : List SeenGroup) (before : Carried) where
  pub none_lifted : AreHung job keeps 0 count moved first → IsLifting job keeps count moved first first before before 0
  none_lifted hung = record { hung = hung; nodes = λ number. refl; numbers = refl; told = refl; carried_is = carried_none job moved before }

  pub one_lifted : (groups middle new : List SeenGroup) (carried after : Carried) (done : ℕ) (link : Link) → IsLifting job keeps count moved first groups before carried done → Changes link.from done None None groups middle → Changes link.to done None None middle new
      → (end : SeenTakeEnd) → end.words ≡ script job done → end.taken ≡ moved done → after ≡ lifted done end carried → IsLifting job keeps count moved first new before after (done + 1)
  one_lifted groups middle new carried after done link lifting puts takes end script_is taken_is after_is =
      let all : after ≡ carried_on job (done + 1) moved before = after_is ∙ ap (lifted done end) lifting.carried_is ∙ carried_more job moved done end before script_is taken_is in
      record {
        hung = λ number other past inside is.
            let apart : number ≡ done → ⊥ = λ same. absurd (omega (arith, past, same)) in
            still_hung link.to done None None middle new takes job keeps number (moved number) other.from other.to apart
            (still_hung link.from done None None groups middle puts job keeps number (moved number) other.from other.to apart (lifting.hung number other (omega (arith, past)) inside is));
        nodes = λ number. takes.nodes number ∙ puts.nodes number ∙ lifting.nodes number;
        numbers = takes.numbers ∙ puts.numbers ∙ lifting.numbers;
        told = ap (λ (any : Carried). is_some any) all ∙ carried_told job moved (done + 1) before;
        carried_is = all;
      }
