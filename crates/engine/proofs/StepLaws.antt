-- The laws of src/lib.rt: an accepted decision, an accepted backtrack and a fixing over the session's numbers.
use Prim.Native.Nat.{ℕ, suc, ◌+◌, ◌-◌, ◌≤◌, ◌<◌}
use native.Mathlib.Omega.{arith}
use mathlib.Core.Bool.{true}
use mathlib.Core.List.{List, ◌∷◌}
use mathlib.Core.Logic.{inl, ⊎_elim}
use mathlib.Core.Path.{◌≡◌, refl, sym, ap, ◌∙◌}
use lib.ListN.{length, get_or, set, drop, length-set, length-drop}
use lib.Seq.{get_or-set_same, get_or-set_other, get_or-drop, drop-set-lt, ext_get_or}
use Rattle.base.proofs.Bools.{never}
use Rattle.book.specs.Formula.{Formula, variable_of}
use Rattle.book.specs.Numbers.{variables_of, clauses_of, formula_of}
use Rattle.run.specs.Trail.{Entry, opposite, cut}
use Rattle.run.specs.Run.{Run, on_trail, with_conflict, propagate, decide, backtrack, fix}
use Rattle.run.specs.Calls.{decide_refusal, backtrack_refusal}
use Rattle.run.proofs.Trails.{untrue_place}
use Rattle.run.proofs.Levels.{decided_count}
use Rattle.book.proofs.SoundLaws.{literal_parts}
use Rattle.run.specs.Progress.{Watched, Going}
use Rattle.run.proofs.Propagation.{valid_structure}
use Rattle.run.proofs.Validity.{Accepted, decision_accepted, decision_going, backtrack_accepted, trail_short}
use Rattle.layout.specs.Layout.{conflict_at, backtracks_at, fixed_at, watches_at, trail_at, levels_at, values_at, checks_at, required_length, decisions_at, length_at}
use Rattle.layout.specs.Encodes.{TrailHeld, WatchesHeld, Encodes}
use Rattle.engine.specs.Inner.Trail.{assign_nums, SameBeside, Cutting}
use Rattle.engine.specs.Inner.Propagation.{Propagating}
use Rattle.engine.specs.Engine.{Becomes, Holding}
use Rattle.engine.proofs.trail.Laws.{held_assign, assign_beside, decisions_beside, beside_compose}
use Rattle.layout.proofs.TrailLaws.{decisions_within}
use Rattle.engine.proofs.lists.FrameLaws.{held_outside, held_beside}
use Rattle.layout.proofs.ChainLaws.{watched_within}

-- what changed only in front of the watch lists did not change behind
pub beside_behind : {v : ℕ} {before after : List ℕ} → SameBeside v before after → (n : ℕ) → watches_at v ≤ n → drop n after ≡ drop n before
beside_behind {v} {before} {after} same n h =
    ext_get_or 0 (drop n after) (drop n before)
    (length-drop n after ∙ ap (λ (k : ℕ). k - n) same.same_length ∙ sym (length-drop n before))
    (λ i k. get_or-drop n after i 0 ∙ same.parts (n + i) (omega arith) ∙ sym (get_or-drop n before i 0))

-- another trail is held, with all beside it as before
pub encodes_beside : {formula : Formula} {before after : List ℕ} {run : Run} (trail : List Entry)
    → Watched formula run.cells run.lists → Encodes formula before run → SameBeside formula.variables before after → TrailHeld formula.variables after trail
    → Encodes formula after
    (record {
      trail = trail;
      cells = run.cells;
      lists = run.lists;
      conflict = run.conflict;
      checks = run.checks;
      backtracks = run.backtracks;
      fixed = run.fixed;
    })
encodes_beside {formula} {before} {after} {run} trail w e same held =
    record {
      long = omega (arith, e.long, same.same_length);
      trail = held;
      conflict = same.header conflict_at (omega arith) (omega arith) ∙ e.conflict;
      backtracks = same.header backtracks_at (omega arith) (omega arith) ∙ e.backtracks;
      fixed = same.header fixed_at (omega arith) (omega arith) ∙ e.fixed;
      watches =
          held_beside formula before after run.cells run.lists
          (watched_within formula run.cells run.lists w) same e.watches;
      checks = λ c h. same.parts (checks_at formula.variables (length formula.clauses) + c) (omega arith) ∙ e.checks c h;
    }

-- a number of the header behind the trail's two is stored
trail_stored : {v : ℕ} {numbers : List ℕ} {trail : List Entry} (x value : ℕ) → conflict_at ≤ x → x < trail_at → TrailHeld v numbers trail
    → TrailHeld v (set numbers x value) trail
trail_stored {v} {numbers} {trail} x value low high k =
    record {
      count = get_or-set_other numbers x length_at value 0 (λ e. omega arith) ∙ k.count;
      decided = get_or-set_other numbers x decisions_at value 0 (λ e. omega arith) ∙ k.decided;
      literals = λ i h. get_or-set_other numbers x (trail_at + i) value 0 (λ e. omega arith) ∙ k.literals i h;
      levels = λ i h. get_or-set_other numbers x (levels_at v + i) value 0 (λ e. omega arith) ∙ k.levels i h;
      values = λ i h. get_or-set_other numbers x (values_at v + i) value 0 (λ e. omega arith) ∙ k.values i h;
    }

module _ {formula : Formula} {numbers : List ℕ} {run : Run} (value : ℕ) (w : Watched formula run.cells run.lists)
    (e : Encodes formula numbers run) where
  watches-stored : (x : ℕ) → x < trail_at → WatchesHeld formula (set numbers x value) run.cells run.lists
  watches-stored x h =
      held_outside formula numbers run.cells run.lists (watched_within formula run.cells run.lists w) x value (inl (omega arith))
      e.watches

  checks_stored : (x : ℕ) → x < trail_at → (c : ℕ) → c < length formula.clauses
      → get_or (set numbers x value) (checks_at formula.variables (length formula.clauses) + c) 0 ≡ get_or run.checks c 0
  checks_stored x h c k =
      get_or-set_other numbers x (checks_at formula.variables (length formula.clauses) + c) value 0 (λ z. omega arith) ∙ e.checks c k

  -- the run with other numbers behind the trail's two
  encodes_stored : (x conflict backtracks fixed : ℕ) → conflict_at ≤ x → x < trail_at
      → get_or (set numbers x value) conflict_at 0 ≡ conflict → get_or (set numbers x value) backtracks_at 0 ≡ backtracks → get_or (set numbers x value) fixed_at 0 ≡ fixed
      → Encodes formula (set numbers x value)
      (record {
        trail = run.trail;
        cells = run.cells;
        lists = run.lists;
        conflict = conflict;
        checks = run.checks;
        backtracks = backtracks;
        fixed = fixed;
      })
  encodes_stored x conflict backtracks fixed low high is-conflict is-backtracks is-fixed =
      record {
        long = omega (arith, e.long, length-set numbers x value);
        trail = trail_stored x value low high e.trail;
        conflict = is-conflict;
        backtracks = is-backtracks;
        fixed = is-fixed;
        watches = watches-stored x high;
        checks = checks_stored x high;
      }

  -- what is read of the number that was stored, and of another one
  here : (x : ℕ) → x < trail_at → get_or (set numbers x value) x 0 ≡ value
  here x h = get_or-set_same numbers x value 0 (omega (arith, e.long))

  elsewhere : (x y : ℕ) → (y ≡ x → ⊥) → {n : ℕ} → get_or numbers y 0 ≡ n → get_or (set numbers x value) y 0 ≡ n
  elsewhere x y other is = get_or-set_other numbers x y value 0 other ∙ is

  pub encodes_conflict : Encodes formula (set numbers conflict_at value) (with_conflict value run)
  unfolding with_conflict
  encodes_conflict =
      encodes_stored conflict_at value run.backtracks run.fixed (omega arith) (omega arith) (here conflict_at (omega arith))
      (elsewhere conflict_at backtracks_at (λ z. omega arith) e.backtracks) (elsewhere conflict_at fixed_at (λ z. omega arith) e.fixed)

  encodes_backtracks : Encodes formula (set numbers backtracks_at value)
      (record {
        trail = run.trail;
        cells = run.cells;
        lists = run.lists;
        conflict = run.conflict;
        checks = run.checks;
        backtracks = value;
        fixed = run.fixed;
      })
  encodes_backtracks =
      encodes_stored backtracks_at run.conflict value run.fixed (omega arith) (omega arith)
      (elsewhere backtracks_at conflict_at (λ z. omega arith) e.conflict) (here backtracks_at (omega arith)) (elsewhere backtracks_at fixed_at (λ z. omega arith) e.fixed)

  encodes_fixed : Encodes formula (set numbers fixed_at value) (fix value run)
  unfolding fix
  encodes_fixed =
      encodes_stored fixed_at run.conflict run.backtracks value (omega arith) (omega arith)
      (elsewhere fixed_at conflict_at (λ z. omega arith) e.conflict) (elsewhere fixed_at backtracks_at (λ z. omega arith) e.backtracks) (here fixed_at (omega arith))

-- The numbers when an accepted decision joined the trail: propagation goes on from there.
module _ {book numbers : List ℕ} (at : Holding book numbers) (l : ℕ) (accepted : decide_refusal (formula_of book) l at.run ≡ 0) where
  abbrev entry : Entry
  entry = record { literal = l; decided = true }

  taken : Accepted (formula_of book) l at.run
  taken = decision_accepted (formula_of book) l at.run accepted

  going : Going (formula_of book) (length at.run.trail) (on_trail l true at.run)
  going = decision_going at.valid taken

  room : length at.run.trail < variables_of book
  unfolding on_trail
  room = trail_short going.structure.trailed

  -- what an assignment asks
  pub record Ready : Type 0 where
    pub count_within : get_or numbers length_at 0 < variables_of book
    pub level_within : get_or numbers decisions_at 0 ≤ variables_of book
    pub low : 2 ≤ l
    pub within : variable_of l ≤ variables_of book

  pub decision_ready : Ready
  decision_ready =
      let bounds = literal_parts (variables_of book) l taken.literal_within_lem in
      record {
        count_within = omega (arith, at.encodes.trail.count, room);
        level_within = omega (arith, at.encodes.trail.decided, room, decisions_within at.run.trail);
        low = bounds.0;
        within = omega arith;
      }

  module _ (variables count level : ℕ) (after : List ℕ) (v-is : variables ≡ variables_of book) (count_is : count ≡ get_or numbers length_at 0)
      (level_is : level ≡ get_or numbers decisions_at 0 + 1) (after_is : after ≡ assign_nums variables (set numbers decisions_at level) l level) where
    beside : SameBeside (variables_of book) numbers after
    beside =
        let same : get_or (set numbers decisions_at level) length_at 0 ≡ get_or numbers length_at 0 = get_or-set_other numbers decisions_at length_at level 0 (λ z. omega arith) in
        rw (after_is, v-is)
        (beside_compose (decisions_beside (variables_of book) numbers level)
        (assign_beside (variables_of book) (set numbers decisions_at level) l level (omega (arith, decision_ready.count_within)) decision_ready.low
        decision_ready.within))

    held : TrailHeld (variables_of book) after (entry ∷ at.run.trail)
    held =
        rw (after_is, v-is)
        (held_assign (variables_of book) numbers entry at.run.trail level at.encodes.trail
        (untrue_place at.run.trail l taken.untrue)
        (untrue_place at.run.trail (opposite l) taken.unfalse)
        taken.literal_within_lem room (omega (arith, at.encodes.long))
        (level_is ∙ ap (λ (n : ℕ). n + 1) at.encodes.trail.decided
        ∙ ⊎_elim (λ p. omega arith) (λ p. absurd (never refl p.0)) (decided_count entry at.run.trail)))

    pub encodes : Encodes (formula_of book) after (on_trail l true at.run)
    unfolding on_trail
    encodes = encodes_beside (entry ∷ at.run.trail) (valid_structure at.valid).watched at.encodes beside held

    pub state : Going (formula_of book) count (on_trail l true at.run)
    state = rw (count_is ∙ at.encodes.trail.count) going

    abbrev pub decision_begun : Propagating book after count
    decision_begun = record { well = at.well; run = on_trail l true at.run; encodes = encodes; state = inl state }

    pub decision_done : {final : List ℕ} → Becomes book after final (propagate (formula_of book) count (on_trail l true at.run))
        → Becomes book numbers final (decide (formula_of book) l at.run)
    unfolding decide
    decision_done b =
        rw (← (count_is ∙ at.encodes.trail.count))
        (record {
          encodes = b.encodes;
          same_length = b.same_length ∙ beside.same_length;
          same_behind = b.same_behind ∙ beside_behind beside (required_length (variables_of book) (clauses_of book)) (omega arith);
        })

-- The numbers after an accepted backtrack.
module _ {book numbers : List ℕ} (at : Holding book numbers) (k : ℕ) (accepted : backtrack_refusal k at.run ≡ 0) where
  pub backtrack_cutting : (variables : ℕ) → variables ≡ variables_of book → Cutting variables numbers k at.run.trail
  backtrack_cutting variables e =
      rw e
      (record {
        is_held = at.encodes.trail;
        once = at.valid.trail_distinct;
        within = at.valid.trail_within_lem;
        short = trail_short (valid_structure at.valid).trailed;
        enough = let room = (backtrack_accepted k at.run accepted).1 in omega arith;
      })

  module _ (variables : ℕ) (after : List ℕ) (v-is : variables ≡ variables_of book) (same : SameBeside variables numbers after)
      (held_is : TrailHeld variables after (cut k at.run.trail)) where
    beside-cut : SameBeside (variables_of book) numbers after
    beside-cut = rw v-is at same

    watched : Watched (formula_of book) at.run.cells at.run.lists
    watched = (valid_structure at.valid).watched

    count_same : get_or (set after conflict_at 0) backtracks_at 0 ≡ at.run.backtracks
    count_same = get_or-set_other after conflict_at backtracks_at 0 0 (λ z. omega arith) ∙ beside-cut.header backtracks_at (omega arith) (omega arith) ∙ at.encodes.backtracks

    cut-encodes : (count : ℕ) → count ≡ suc at.run.backtracks → Encodes (formula_of book) (set (set after conflict_at 0) backtracks_at count) (backtrack k at.run)
    unfolding backtrack with_conflict
    cut-encodes count e =
        rw e
        (encodes_backtracks (suc at.run.backtracks) watched
        (encodes_conflict 0 watched
        (encodes_beside (cut k at.run.trail) watched at.encodes beside-cut (rw v-is at held_is))))

    pub backtrack_done : Becomes book numbers (set (set after conflict_at 0) backtracks_at (get_or (set after conflict_at 0) backtracks_at 0 + 1)) (backtrack k at.run)
    backtrack_done =
        record {
          encodes = cut-encodes (get_or (set after conflict_at 0) backtracks_at 0 + 1) (let z = count_same in omega arith);
          same_length = simp length-set beside-cut.same_length;
          same_behind =
              drop-set-lt (required_length (variables_of book) (clauses_of book)) (set after conflict_at 0) backtracks_at (get_or (set after conflict_at 0) backtracks_at 0 + 1) (omega arith)
              ∙ drop-set-lt (required_length (variables_of book) (clauses_of book)) after conflict_at 0 (omega arith)
              ∙ beside_behind beside-cut (required_length (variables_of book) (clauses_of book)) (omega arith);
        }

-- The numbers after a fixing.
pub fix_done : {book numbers : List ℕ} (at : Holding book numbers) (f : ℕ) → Becomes book numbers (set numbers fixed_at f) (fix f at.run)
fix_done {book} {numbers} at f =
    record {
      encodes = encodes_fixed f (valid_structure at.valid).watched at.encodes;
      same_length = length-set numbers fixed_at f;
      same_behind = drop-set-lt (required_length (variables_of book) (clauses_of book)) numbers fixed_at f (omega arith);
    }
