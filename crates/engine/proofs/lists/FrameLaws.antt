-- What does not touch the lists that numbers hold: stores elsewhere, and other watches of clauses whose nodes stay.
use Prim.Native.Nat.{ℕ, ◌+◌, ◌*◌, ◌≤◌, ◌<◌}
use native.Mathlib.Omega.{arith}
use mathlib.Core.Bool.{true}
use mathlib.Core.List.{List, []}
use mathlib.Core.Logic.{◌⊎◌, ⊎_elim}
use mathlib.Core.Path.{◌≡◌, refl, sym, ◌∙◌}
use lib.ListN.{length, get_or, set, replicate}
use lib.Seq.{get_or-set_other}
use Rattle.base.specs.Lists.{times}
use Rattle.base.proofs.Lists.{get_or_alike}
use Rattle.book.specs.Formula.{Formula, sound}
use Rattle.run.specs.Scan.{Cell}
use Rattle.run.specs.Run.{Run, list_of}
use Rattle.run.proofs.Clauses.{clause_exists}
use Rattle.run.proofs.WatchLists.{listed_size}
use Rattle.run.specs.Progress.{Watched}
use Rattle.layout.specs.Layout.{watches_at, pointers_at, checks_at, required_length, node_of, head_slot, link_slot}
use Rattle.layout.specs.Encodes.{ListsHeld, WatchesHeld, Encodes}
use Rattle.layout.proofs.ChainLaws.{Within, watched_apart, watched_once}
use Rattle.engine.specs.Inner.Lists.{lists_at, Orderly, Lists, linked}
use Rattle.engine.specs.Inner.Trail.{SameBeside}
use Rattle.engine.proofs.lists.LinkLaws.{chains_kept}

-- the lists of a run whose watches are in order
pub watched_orderly : {formula : Formula} {cells : List Cell} {lists : List (List ℕ)} → sound formula ≡ true → Watched formula cells lists
    → Orderly formula cells lists
watched_orderly {formula} {cells} {lists} s w =
    record {
      within = listed_size w;
      once = watched_once formula cells lists w s;
      apart = watched_apart formula cells lists w s;
    }

pub lists_of : {formula : Formula} {numbers : List ℕ} {run : Run} (v n : ℕ) → formula.variables ≡ v → length formula.clauses ≡ n
    → sound formula ≡ true → Watched formula run.cells run.lists → Encodes formula numbers run
    → Lists linked v n numbers formula run.cells run.lists
lists_of v n v-is n-is s w e =
    record {
      variables_are = v-is;
      clauses_are = n-is;
      long = omega (arith, e.long);
      many = omega (arith, w.lists_length);
      held = e.watches.in_lists;
      orderly = watched_orderly s w;
    }

pub orderly_within : {formula : Formula} {cells : List Cell} {lists : List (List ℕ)} → Orderly formula cells lists → Within formula lists
orderly_within {formula} o l d h = clause_exists formula d (let z = o.within l d h in omega arith)

-- numbers that are 0 hold no list
pub lists_held_none : (formula : Formula) (numbers : List ℕ) (count : ℕ)
    → ((x : ℕ) → lists_at formula.variables (length formula.clauses) ≤ x → x < required_length formula.variables (length formula.clauses) → get_or numbers x 0 ≡ 0)
    → ListsHeld formula numbers [] (replicate count [])
lists_held_none formula numbers count zeros =
    record {
      chains =
          λ l low high.
          rw (get_or_alike {A = List ℕ} count l []) (zeros (head_slot formula.variables (length formula.clauses) l) (omega arith) (omega arith));
      idle = λ m a b h. zeros (link_slot formula.variables (length formula.clauses) m) (omega arith) (omega arith);
    }

-- the lists lie where they lay, and the nodes of their clauses stay
pub lists_held_kept : (formula : Formula) (s t : List ℕ) (cells after : List Cell) (lists : List (List ℕ)) → Within formula lists
    → ((x : ℕ) → lists_at formula.variables (length formula.clauses) ≤ x → x < required_length formula.variables (length formula.clauses) → get_or t x 0 ≡ get_or s x 0)
    → ((l d : ℕ) → 0 < times d (list_of lists l) → node_of formula after l d ≡ node_of formula cells l d)
    → ListsHeld formula s cells lists → ListsHeld formula t after lists
lists_held_kept formula s t cells after lists within alike same k =
    record {
      chains = chains_kept formula s t cells after lists within alike same k.chains;
      idle = λ m a b h. alike (link_slot formula.variables (length formula.clauses) m) (omega arith) (omega arith) ∙ k.idle m a b h;
    }

pub lists_kept : {v n : ℕ} {s t : List ℕ} {formula : Formula} {cells : List Cell} {lists : List (List ℕ)} (after : List Cell) → length t ≡ length s
    → ((x : ℕ) → lists_at v n ≤ x → x < required_length v n → get_or t x 0 ≡ get_or s x 0)
    → ((l d : ℕ) → 0 < times d (list_of lists l) → node_of formula after l d ≡ node_of formula cells l d)
    → Lists linked v n s formula cells lists → Lists linked v n t formula after lists
lists_kept {v} {n} {s} {t} {formula} {cells} {lists} after long alike same k =
    record {
      variables_are = k.variables_are;
      clauses_are = k.clauses_are;
      long = omega (arith, k.long);
      many = k.many;
      held =
          lists_held_kept formula s t cells after lists (orderly_within k.orderly)
          (λ x a b. alike x (omega (arith, k.variables_are, k.clauses_are)) (omega (arith, k.variables_are, k.clauses_are))) same k.held;
      orderly =
          record {
            within = k.orderly.within;
            once = k.orderly.once;
            apart = λ l d m e h i z. k.orderly.apart l d m e h i (sym (same l d h) ∙ z ∙ same m e i);
          };
    }

-- what is outside the watches, the pointers and the lists does not matter
module _ (formula : Formula) where
  abbrev v : ℕ
  v = formula.variables

  abbrev n : ℕ
  n = length formula.clauses

  pub held_frame : (s t : List ℕ) (cells : List Cell) (lists : List (List ℕ)) → Within formula lists
      → ((x : ℕ) → watches_at formula.variables ≤ x → x < checks_at formula.variables (length formula.clauses) → get_or t x 0 ≡ get_or s x 0)
      → ((x : ℕ) → lists_at formula.variables (length formula.clauses) ≤ x → x < required_length formula.variables (length formula.clauses) → get_or t x 0 ≡ get_or s x 0)
      → WatchesHeld formula s cells lists → WatchesHeld formula t cells lists
  held_frame s t cells lists within same alike k =
      record {
        firsts = λ c h. same (watches_at v + 2 * c) (omega arith) (omega arith) ∙ k.firsts c h;
        seconds = λ c h. same (watches_at v + 2 * c + 1) (omega arith) (omega arith) ∙ k.seconds c h;
        pointers = λ c h. same (pointers_at v n + c) (omega arith) (omega arith) ∙ k.pointers c h;
        in_lists = lists_held_kept formula s t cells cells lists within alike (λ l d h. refl) k.in_lists;
      }

  pub held_outside : (numbers : List ℕ) (cells : List Cell) (lists : List (List ℕ)) → Within formula lists → (x value : ℕ)
      → (x < watches_at formula.variables)
      ⊎ ((checks_at formula.variables (length formula.clauses) ≤ x) × (x < lists_at formula.variables (length formula.clauses)))
      → WatchesHeld formula numbers cells lists → WatchesHeld formula (set numbers x value) cells lists
  held_outside numbers cells lists within x value where-it-is =
      held_frame numbers (set numbers x value) cells lists within
      (λ y a b. get_or-set_other numbers x y value 0 (λ e. ⊎_elim (λ z. omega arith) (λ z. omega arith) where-it-is))
      (λ y a b. get_or-set_other numbers x y value 0 (λ e. ⊎_elim (λ z. omega arith) (λ z. omega arith) where-it-is))

  pub held_beside : (before after : List ℕ) (cells : List Cell) (lists : List (List ℕ)) → Within formula lists → SameBeside formula.variables before after
      → WatchesHeld formula before cells lists → WatchesHeld formula after cells lists
  held_beside before after cells lists within same =
      held_frame before after cells lists within (λ x a b. same.parts x a) (λ x a b. same.parts x (omega arith))
