-- `write_three` meets its contract: the three stores put a row over the first three elements.
use mathlib.Core.Path.{◌∙◌}
use mathlib.Core.List.{[], ◌∷◌}
use Prim.Native.Nat.{◌*◌}
use native.Mathlib.Omega.{arith}
use lib.Seq.{sets-eq}
use Rattle.methodology.specs.Contribution.{funded, unfunded, three}
use Rattle.fund.proofs.write_three.Goals as goal

pub returns : goal.returns
unfolding three funded unfunded
returns c =
    let a = c.args in
    let f = c.max-funded in
    record { value = f.ensures; out_after = sets-eq (a.raw ∷ f.result ∷ 2 * f.result ∷ []) a.out.now 0 (omega arith) ∙ rw f.ensures }
