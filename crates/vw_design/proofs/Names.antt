-- Names that are the same, and names among others.
use Rattle.std.proofs.Common.{◌≡◌, true, List, refl, subst}
use Rattle.std.specs.Str.{bytes_eq}
use Rattle.std.proofs.lemmas.Slice.Eq.{bytes_eq-Decides}
use Rattle.vw_design.specs.Distinct.{has_name}
use Rattle.vw_design.specs.Paths.{Word}
use Rattle.vw_design.proofs.ListElements.{Has, any-Has, from-any}

pub same_name : (one other : Word) → bytes_eq one other ≡ true → one ≡ other
same_name one other same = (bytes_eq-Decides one other).0 same

pub name_same : (name : Word) → bytes_eq name name ≡ true
name_same name = (bytes_eq-Decides name name).1 refl

pub equal_names : (one other : Word) → one ≡ other → bytes_eq one other ≡ true
equal_names one other same = (bytes_eq-Decides one other).1 same

pub has_name-Has : (names : List Word) (name : Word) → Has name names → has_name names name ≡ true
has_name-Has names name has = any-Has (λ other. bytes_eq other name) name names has (name_same name)

pub Has-has_name : (names : List Word) (name : Word) → has_name names name ≡ true → Has name names
Has-has_name names name has =
    let found = from-any (λ other. bytes_eq other name) names has in
    subst (λ (w : Word). Has w names) (same_name found.0 name found.2) found.1
