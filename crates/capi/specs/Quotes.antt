-- When a base, a premium and a number of open lines fit a quote record (request K8): what the theorems on premiums and records say.
use Rattle.std.specs.Prelude.{ℕ, ◌≤◌, ◌<◌, List, ◌≡◌, ℤ, pos, length, take, Ok}
use Rattle.packed.specs.Packed.{record_written, record_after, record_answer, quote_of}
use Rattle.packed.specs.Statement.{base_bit, premium_bit, lines_bit, bytes_under, kept}

-- Under every map without a higher bit, into all lent bytes that are enough, they are written, and read back as they are, 0 where a bit does not stand.
abbrev pub FitsRecord : ℤ → ℤ → ℕ → Type 0
FitsRecord base amount count =
    (map : ℕ) (out : List ℕ) → map < 8 → bytes_under map ≤ length out
    → (record_written map base amount (pos count) (length out) ≡ Ok (bytes_under map))
    × (record_answer (take (bytes_under map) (record_after map base amount (pos count) out))
    ≡ Ok (quote_of map (kept (base_bit map) base) (kept (premium_bit map) amount) (kept (lines_bit map) (pos count))))
