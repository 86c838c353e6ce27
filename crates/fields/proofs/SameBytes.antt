-- Two lists of bytes compared: `==` of slices is the definitions' test, byte by byte.
use Rattle.std.proofs.Common.{◌≡◌, ℕ, Bool, eqb, ◌&&◌, List, [], ◌∷◌, refl, ap}
use Rattle.std.specs.Cmp.Lexicographic.{pointwise}
use Rattle.methodology.specs.Text.{same}

pub pointwise_same : (a b : List ℕ) → pointwise eqb a b ≡ same a b
unfolding same
pointwise_same [] [] = refl
pointwise_same [] (y ∷ b) = refl
pointwise_same (x ∷ a) [] = refl
pointwise_same (x ∷ a) (y ∷ b) = ap (λ (t : Bool). eqb x y && t) (pointwise_same a b)
