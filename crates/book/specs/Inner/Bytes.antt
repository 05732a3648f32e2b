-- What the contracts of src/bytes.rt cite: the token that the answer to a word is.
use Rattle.std.specs.Prelude.{Option, Some, None}
use Rattle.book.specs.Text.{Token, literal, close, invalid}
use Rattle.book.specs.declared.bytes.Word.{Word}
use Rattle.book.specs.declared.bytes.Word.TheVariants as w

abbrev pub token_in : Option Word → Token
token_in (Some (w.Literal l)) = literal l
token_in (Some w.Close) = close
token_in None = invalid
