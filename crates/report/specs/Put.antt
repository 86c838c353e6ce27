-- Bytes stored into a lent buffer from an index on. It is total: what finds no room is left out, and the answer says so.
use Rattle.std.specs.Prelude.{List, ◌≡◌, ℕ, ◌+◌, min, length}
use Rattle.std.proofs.lemmas.List.Edits.{sets}

-- The bytes s stand in the buffer from index `at` on, as far as it has room, and all else is as before. r is the index after them, or one
-- more than the buffer's length where they do not all find room.
pub record Put (before : List ℕ) (at : ℕ) (s : List ℕ) (after : List ℕ) (r : ℕ) : Type 0 where
  pub bytes : after ≡ sets before at s
  pub next : r ≡ min (at + length s) (length before + 1)
