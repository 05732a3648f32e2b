-- What the contracts of src/writing.rt cite: bytes written one behind the other to a lent buffer.
use Rattle.std.specs.Prelude.{ℕ, ◌≡◌, List, ◌++◌, length, take}
use Rattle.base.specs.Lists.{copied}
use Rattle.script.specs.declared.writing.Writer.{Writer}

-- the bytes so far are in the buffer as far as they fit, and `at` is the end of what fitted
pub record Holds (writer : Writer) (buffer bytes : List ℕ) : Type 0 where
  pub holds : writer.out.now ≡ copied bytes buffer
  pub end : writer.at ≡ length (take (length buffer) bytes)

-- a writer has put the bytes behind those that were in its buffer
pub record Puts (old new : Writer) (bytes : List ℕ) : Type 0 where
  pub same_buffer : new.out.ghost_name ≡ old.out.ghost_name
  pub same_length : length new.out.now ≡ length old.out.now
  pub more : (buffer so_far : List ℕ) → Holds old buffer so_far → Holds new buffer (so_far ++ bytes)
