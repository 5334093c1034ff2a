-- The replies of a lane's calls and those that stand for them, one call more at a time.
use Rattle.std.proofs.Common.{◌≡◌, ℕ, zero, suc, ◌+◌, List, [], ◌∷◌, ◌++◌, take, Some, None, subst, arith}
use Rattle.std.specs.Prelude.{slice_get}
use Rattle.call_places.specs.declared.entries.Entry.{Entry}
use Rattle.batch_plans.specs.declared.plan.CallLine.{CallLine}
use Rattle.context_books.specs.LaneCalls.{lane_calls}
use Rattle.lane_workers.specs.LiveLanes.{LiveView, Chunk, own_reply, IsHeardAs, AreHeard}

module _ (v : LiveView) (notes : List Entry) (lane : ℕ) where
  -- the first call of those that are numbered from here on has this number
  heard_from : (calls : List CallLine) (start k : ℕ) (call : CallLine)
      → slice_get calls k ≡ Some call → (chunks : List Chunk) (c : Chunk)
      → AreHeard v notes lane start (take k calls) chunks
      → IsHeardAs v call (own_reply v.plan notes lane (start + k) call) c
      → AreHeard v notes lane start (take (k + 1) calls) (chunks ++ c ∷ [])
  heard_from [] start k call at chunks c before new =
      absurd (let none : None ≡ Some call = at in cc)
  heard_from (x ∷ calls) start zero call at [] c before new =
      let here : Some x ≡ Some call = at in
      let same : call ≡ x = cc in
      let number : start + 0 ≡ start = omega arith in
      let first = subst (λ n. IsHeardAs v call (own_reply v.plan notes lane n call) c) number new in
      (subst (λ l. IsHeardAs v l (own_reply v.plan notes lane start l) c) same first, tt)
  heard_from (x ∷ calls) start zero call at (d ∷ chunks) c before new = absurd before
  heard_from (x ∷ calls) start (suc k) call at [] c before new = absurd before
  heard_from (x ∷ calls) start (suc k) call at (d ∷ chunks) c before new =
      let number : start + suc k ≡ start + 1 + k = omega arith in
      let one_more : suc (k + 1) ≡ suc k + 1 = omega arith in
      let later = subst (λ n. IsHeardAs v call (own_reply v.plan notes lane n call) c) number new in
      subst (λ n. AreHeard v notes lane start (take n (x ∷ calls)) (d ∷ chunks ++ c ∷ [])) one_more
      (before.0, heard_from calls (start + 1) k call at chunks c before.1 later)

-- the next call of the lane is heard too
pub heard_more : (v : LiveView) (notes : List Entry) (lane k : ℕ) (call : CallLine)
    → slice_get (lane_calls v.plan lane) k ≡ Some call → (chunks : List Chunk) (c : Chunk)
    → AreHeard v notes lane 0 (take k (lane_calls v.plan lane)) chunks
    → IsHeardAs v call (own_reply v.plan notes lane k call) c
    → AreHeard v notes lane 0 (take (k + 1) (lane_calls v.plan lane)) (chunks ++ c ∷ [])
heard_more v notes lane k call at chunks c before new =
    let number : k ≡ 0 + k = omega arith in
    heard_from v notes lane (lane_calls v.plan lane) 0 k call at chunks c before
    (subst (λ n. IsHeardAs v call (own_reply v.plan notes lane n call) c) number new)
