use Rattle.std.proofs.Common.{◌≡◌, ◌∙◌, [], Option, None, Some, is_some, false, option_map, sym, ap, refl, true≢false}
use Rattle.std.specs.Option.{option_or}
use Rattle.vw_design.specs.Paths.{Word, Net, printed, model_at, model_outputs}
use Rattle.vw_design.specs.NetReads.{net_at}
use Rattle.vw_net_faults.specs.Nets.{printed_net}
use Rattle.vw_net_faults.specs.Steps.Wanted.{wanted_among, wanted_read}
use Rattle.vw_net_faults.proofs.search.Search.first_wanted.Goals as goal

-- a name of the root where nothing was found before
of_root : (read : Option Net) (found : Option Word) → found ≡ printed_net read → is_some found ≡ false
    → (output : Option Word) (name : Word) → Some name ≡ output → (net : Word) → net ≡ printed (net_at [] name)
    → Some net ≡ printed_net (option_or read (option_map (net_at []) output))
of_root None found is none output name some net same = ap (λ (w : Word). Some w) same ∙ ap (λ (o : Option Word). printed_net (option_map (net_at []) o)) some
of_root (Some read) found is none output name some net same = absurd (true≢false (sym (ap is_some is) ∙ none))

pub returns-in-Some : goal.returns-in-Some
returns-in-Some c =
    let design = c.args.self.now.nets.now.design.now in
    let wanted = c.args.self.now.wanted.now in
    of_root (wanted_read design wanted) c.in_ok-read.read c.in_ok-read.ensures (sym c.is_some.ensures ∙ c.if-is_some.false) (wanted_among design wanted [] (model_outputs (model_at design []))) c.in-Some.name.now
    c.in-Some.ensures c.in_ok-net-in-Some.net (c.in_ok-net-in-Some.ensures [] refl)
