use Rattle.std.proofs.Common.{◌≡◌, ◌++◌, ◌∷◌, [], false, not, List, if◌then◌else◌, rules, sym, ◌∙◌, ap}
use Rattle.vw_design.specs.Paths.{Word}
use Rattle.vw_drivers.specs.Firsts.{First}
use Rattle.vw_drivers.specs.Steps.GatheredClaims.{has_claim}
use Rattle.vw_drivers.proofs.NameMaps.{entries_as_firsts, has_first, new_first}
use Rattle.vw_drivers.proofs.firsts.Firsts.add.Goals as goal

pub returns-then-contains_key-clause-is_new : goal.returns-then-contains_key-clause-is_new
returns-then-contains_key-clause-is_new c =
    let name = c.args.name.now in
    let has = ap (λ (firsts : List First). has_claim firsts name) (sym c.self.view_is) ∙ sym (has_first c.self.inside.claims.entries (λ key. key.items) name) ∙ sym c.contains_key.ensures in
    ap not (sym (has ∙ c.if-contains_key.true))

pub returns-then-contains_key-clause-firsts : goal.returns-then-contains_key-clause-firsts
returns-then-contains_key-clause-firsts c =
    let name = c.args.name.now in
    let firsts = c.args.self.now in
    let has = ap (λ (firsts : List First). has_claim firsts name) (sym c.self.view_is) ∙ sym (has_first c.self.inside.claims.entries (λ key. key.items) name) ∙ sym c.contains_key.ensures in
    ap (λ b. if b then firsts else firsts ++ record { name = name; claim = c.args.claim } ∷ []) (sym (has ∙ c.if-contains_key.true))

pub returns-clause-is_new : goal.returns-clause-is_new
returns-clause-is_new c =
    let name = c.args.name.now in
    let has = ap (λ (firsts : List First). has_claim firsts name) (sym c.self.view_is) ∙ sym (has_first c.self.inside.claims.entries (λ key. key.items) name) ∙ sym c.contains_key.ensures in
    ap not (sym (has ∙ c.if-contains_key.false))

pub returns-clause-firsts : goal.returns-clause-firsts
returns-clause-firsts c =
    let name = c.args.name.now in
    let firsts = c.args.self.now in
    let entries = c.self.inside.claims.entries in
    let listed = has_first entries (λ key. key.items) name in
    let has = ap (λ (firsts : List First). has_claim firsts name) (sym c.self.view_is) ∙ sym listed ∙ sym c.contains_key.ensures in
    let key : c.in_ok-to_vec.field-0.items ≡ name = search rules in
    let none : has_claim (entries_as_firsts (λ key. key.items) entries) c.in_ok-to_vec.field-0.items ≡ false =
    ap (λ (w : Word). has_claim (entries_as_firsts (λ key. key.items) entries) w) key ∙ sym listed ∙ sym c.contains_key.ensures ∙ c.if-contains_key.false in
    ap (entries_as_firsts (λ key. key.items)) c.in_ok-insert.ensures.entries
    ∙ new_first entries (λ key. key.items) c.in_ok-to_vec.field-0 c.args.claim none
    ∙ ap (λ (w : Word). entries_as_firsts (λ key. key.items) entries ++ record { name = w; claim = c.args.claim } ∷ []) key
    ∙ ap (λ (list : List First). list ++ record { name = name; claim = c.args.claim } ∷ []) c.self.view_is
    ∙ ap (λ b. if b then firsts else firsts ++ record { name = name; claim = c.args.claim } ∷ []) (sym (has ∙ c.if-contains_key.false))
