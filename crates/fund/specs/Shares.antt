-- The sums of members' shares, as arrays hold them, with those of one day more.
use Rattle.std.specs.Prelude.{cond, List, map, ℕ, ◌+◌, ◌*◌, ltb, get_or}
use Rattle.std.specs.List.{range_with_len}

-- member i + 1's share in what a day wrote: the second of its five numbers
abbrev pub share_in : (out : List ℕ) → (i : ℕ) → ℕ
share_in out i = get_or out (5 * i + 1) 0

-- an array of 32 sums, each with what place i adds
abbrev pub plus_each : (sums : List ℕ) → (added : (i : ℕ) → ℕ) → List ℕ
plus_each sums added = map (λ i. get_or sums i 0 + added i) (range_with_len 0 32)

-- the sums of n members, each with the share that the day wrote; past member n nothing is added
abbrev pub with_shares : (sums : List ℕ) → (n : ℕ) → (out : List ℕ) → List ℕ
with_shares sums n out = plus_each sums (λ i. cond (ltb i n) (share_in out i) 0)
