-- A line that is kept in a buffer.
use Prim.Native.Nat.{ℕ, ◌+◌, ◌-◌, ◌≤◌, ◌<◌}
use mathlib.Core.Path.{◌≡◌, sym, ◌∙◌}
use mathlib.Core.List.{List, [], ◌++◌, append-nil}
use native.Mathlib.Omega.{arith}
use lib.ListN.{length, take, drop, length-take, length-drop, drop_of_length-le}
use lib.Seq.{take_all, drop-nil}
use Rattle.base.specs.Lists.{copied}
use Rattle.base.proofs.Lists.{tail_whole, tail_back}
use Rattle.script.specs.Buffer.{fitting}
use Rattle.dialog.specs.Taking.{kept_after, line_after}

-- bytes that are stored in the part of the buffer behind those that are kept
module _ (line : List ℕ) (kept : ℕ) (bytes part : List ℕ) (r : ℕ) (count : r ≡ fitting bytes (take (length line - kept) (drop kept line)))
    (is : part ≡ copied bytes (take (length line - kept) (drop kept line))) where
  pub kept_stored : kept + r ≡ kept_after line kept bytes
  kept_stored = rw (count, tail_whole kept line)

  pub line_stored : take kept line ++ (part ++ drop (length line - kept) (drop kept line)) ≡ line_after line kept bytes
  line_stored = tail_back kept line part ∙ rw (is, tail_whole kept line)

  pub stored_within : kept ≤ length line → kept + r ≤ length line
  unfolding fitting
  stored_within h = rw (count, tail_whole kept line, length-take (length (drop kept line)) bytes, length-drop kept line) (omega arith)

-- where more is kept than the buffer has, nothing more is kept
module _ (line : List ℕ) (kept : ℕ) (bytes : List ℕ) (over : length line < kept) where
  none : drop kept line ≡ []
  none = drop_of_length-le line {i = kept} (omega arith)

  pub kept_over : kept ≡ kept_after line kept bytes
  unfolding fitting
  kept_over = rw none (omega arith)

  pub line_over : line ≡ line_after line kept bytes
  unfolding copied
  line_over = rw (none, take_all kept line (omega arith), drop-nil {A = ℕ} (length bytes)) (sym (append-nil line))
