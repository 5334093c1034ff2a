-- What is read out of a list: a pass of a lane, the calls of a lane.
use Rattle.std.proofs.Common.{◌≡◌, ◌<◌, ℕ, zero, suc, List, [], ◌∷◌, length, Option, Some, None, IsSome, is_some, ap, arith}
use Rattle.batch_plans.specs.declared.plan.CallLine.{CallLine}
use Rattle.std.specs.Prelude.{slice_index_or}
use Rattle.turn_lock.specs.Passes.{PassView}

pub is_there : {X : Type 0} {o : Option X} {x : X} → o ≡ Some x → IsSome o
is_there is = ap is_some is

pub one_of : {X : Type 0} (x y : X) → Some x ≡ Some y → x ≡ y
one_of x y e = cc

pub none_some : {X : Type 0} (x : X) → None ≡ Some x → ⊥
none_some x e = cc

pub read_here : (passes : List (Option PassView)) (number : ℕ) (found : Option PassView)
    (p : PassView) → slice_index_or passes number None ≡ Some p
    → slice_index_or passes number found ≡ Some p
read_here [] number found p e = absurd (let f : None ≡ Some p = e in cc)
read_here (q ∷ passes) zero found p e = e
read_here (q ∷ passes) (suc number) found p e = read_here passes number found p e

-- the calls of a lane that is there
pub lane_here : (lanes : List (List CallLine)) (lane : ℕ) (found : List CallLine)
    → lane < length lanes → found ≡ slice_index_or lanes lane found
    → found ≡ slice_index_or lanes lane []
lane_here [] lane found low e = absurd (omega arith)
lane_here (x ∷ lanes) zero found low e = e
lane_here (x ∷ lanes) (suc lane) found low e = lane_here lanes lane found (omega arith) e
