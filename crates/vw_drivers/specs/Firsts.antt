-- Claimed names with the first claims on them, in the order in which they are first claimed.
use Rattle.std.specs.Prelude.{ℕ, List, slice_get, Option, option_map, option_and_then}
use Rattle.std.specs.Str.{bytes_eq}
use Rattle.vw_net.specs.FirstFound.{first_place}
use Rattle.vw_design.specs.Paths.{Word}
use Rattle.vw_drivers.specs.declared.claim.Claim.{Claim}

-- a name with a claim on it
pub record First : Type 0 where
  pub name : Word
  pub claim : Claim

-- the number of the claim on a name, from 0; and the claim with this number
abbrev pub number_named : List First → Word → Option ℕ
number_named firsts name = first_place (λ first. bytes_eq first.name name) firsts

abbrev pub claim_at : List First → ℕ → Option Claim
claim_at firsts number = option_map (λ first. first.claim) (slice_get firsts number)

abbrev pub claim_named : List First → Word → Option Claim
claim_named firsts name = option_and_then (claim_at firsts) (number_named firsts name)
