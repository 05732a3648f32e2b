-- What the number that `tariff_lookup` answers tells a caller.
use Prim.Native.Nat.{ℕ, ◌+◌, ◌*◌, ◌/◌, ◌%◌}
use native.Mathlib.Omega.{arith}
use mathlib.Core.List.{List}
use mathlib.Core.Logic.{inl, inr}
use mathlib.Core.Path.{◌≡◌, refl, ap}
use Rattle.std.specs.Prelude.{Result, Ok, Err}
use Rattle.refusals.specs.declared.Refusal.{Refusal}
use Rattle.refusals.specs.Refusals.{number_of}
use Rattle.session.specs.Outcomes.{lookup_answer}
use Rattle.session.specs.declared.Assigned.{Assigned}
use Rattle.session.specs.declared.Assigned.TheVariants.{Open, Positive, Negative}
use Rattle.session.proofs.LookupLaws.{refused_shown}
use Rattle.session.proofs.ShownLevels.{lookup_level_within}
use Rattle.capi.specs.Codes.{assigned_code, LookupTold}

-- The number that a caller in C gets tells the answer.
pub lookup_told : (book session : List ℕ) (v : ℕ) → LookupTold (assigned_code (lookup_answer book session v)) (lookup_answer book session v)
lookup_told book session v = go (lookup_answer book session v) refl
  where
    go : (a : Result Assigned Refusal) → lookup_answer book session v ≡ a → LookupTold (assigned_code a) a
    go (Ok Open) e = record { accepted = λ small. (omega arith, inl (refl, refl)); refused = λ large. absurd (omega arith) }
    go (Ok (Positive n)) e =
        let within = (lookup_level_within book session v n (inl e)).1 in
        let apart : n ≡ (4 * n + 1) / 4 = omega arith in
        record { accepted = λ small. (omega arith, inr (inl (omega arith, ap (λ (m : ℕ). Ok (Positive m)) apart))); refused = λ large. absurd (omega arith) }
    go (Ok (Negative n)) e =
        let within = (lookup_level_within book session v n (inr e)).1 in
        let apart : n ≡ (4 * n + 2) / 4 = omega arith in
        record { accepted = λ small. (omega arith, inr (inr (omega arith, ap (λ (m : ℕ). Ok (Negative m)) apart))); refused = λ large. absurd (omega arith) }
    go (Err r) e =
        let few = refused_shown book session v r e in
        let apart : number_of r ≡ (2 * 4294967296 + number_of r) % 4294967296 = omega arith in
        record { accepted = λ small. absurd (omega arith); refused = λ large. (omega arith, (r, refl, apart)) }
