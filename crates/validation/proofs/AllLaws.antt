-- What `all` answers over a range of numbers.
use Rattle.std.proofs.Common.{◌≡◌, ℕ, ◌+◌, ◌-◌, ◌≤◌, ◌<◌, List, length, get_or, arith, Bool, true, false, refl, subst, sym}
use Rattle.std.proofs.iter.Yields.{nat_range_steps}
use Rattle.std.proofs.lemmas.Iterator.{cases_from_all, YieldsList-from_range}
use Rattle.std.proofs.lemmas.List.FromFn.{length-range_with_len, get_or-range_with_len}
use Rattle.std.specs.Bool.{MatchBool}
use Rattle.std.specs.Fn.{Called}
use Rattle.std.specs.Iterator.{ChecksAll}
use Rattle.std.specs.List.{range_with_len, AllWithin, HoldsAt}
use Rattle.std.specs.declared.ops.Range.{Range}
use denote.Param.Members.{Mut}
use Rattle.validation.specs.Inner.Says.{Says}
use Rattle.validation.proofs.SaysLaws.{says_true, says_false}

module _ {F : Type 0} {g : Mut F (ℕ × Unit {0}) Bool} (s u : Range ℕ) (f : F) (r : Bool) (P : ℕ → Type 0)
    (ran : ChecksAll nat_range_steps g s f r u)
    (yes : (x : ℕ) (q : F) → Called g f (x, tt) true q → (q ≡ f) × P x)
    (no : (x : ℕ) (q : F) → Called g f (x, tt) false q → P x → ⊥) where
  abbrev all : List ℕ
  all = range_with_len s.start (s.end - s.start)

  long : length all ≡ s.end - s.start
  long = length-range_with_len s.start (s.end - s.start)

  pub says_all : Says r ((k : ℕ) → s.start ≤ k → k < s.end → P k)
  says_all = go r (cases_from_all u f r P (λ x. P x → ⊥) ran (YieldsList-from_range s.start s.end _ refl refl) yes no)
    where
      go : (b : Bool) → MatchBool b (AllWithin P all 0 (length all)) ((k : ℕ) × (k < length all) × HoldsAt (λ x. P x → ⊥) all k)
          → Says b ((k : ℕ) → s.start ≤ k → k < s.end → P k)
      go true each =
          says_true
          (λ k low high.
          subst P {x = get_or all (k - s.start) 0} {y = k}
          (omega (arith, get_or-range_with_len s.start (s.end - s.start) (k - s.start) 0 (omega arith)))
          (each (k - s.start) 0 (omega arith) (omega (arith, long))))
      go false some =
          says_false
          (λ each.
          let inside : some.0 < s.end - s.start = omega (arith, long, some.1) in
          some.2 0
          (subst P {x = s.start + some.0} {y = get_or all some.0 0} (sym (get_or-range_with_len s.start (s.end - s.start) some.0 0 inside))
          (each (s.start + some.0) (omega arith) (omega arith))))

  pub says_all_below : s.start ≡ 0 → Says r ((k : ℕ) → k < s.end → P k)
  says_all_below first =
      record { yes = λ e k high. says_all.yes e k (omega arith) high; no = λ e each. says_all.no e (λ k low high. each k high) }
