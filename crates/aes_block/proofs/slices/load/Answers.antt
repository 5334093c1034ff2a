use Rattle.std.proofs.Common.{◌≡◌, ◌<◌, ◌∷◌, [], ℕ, List, get_or, length}
use Rattle.aes_block.specs.Sliced.{moved, lane_of}
use Rattle.aes_block.proofs.States.{eight}
use Rattle.aes_block.proofs.slices.load.Goals as goal

pub returns-clause-long : goal.returns-clause-long
returns-clause-long c =
    let list : List (List ℕ) = c.lanes.result ∷ c.lanes-2.result ∷ c.lanes-3.result ∷ c.lanes-4.result ∷ c.lanes-5.result ∷ c.lanes-6.result ∷ c.lanes-7.result ∷ c.lanes-8.result ∷ [] in
    eight (λ k. length (get_or list k []) ≡ 16) c.lanes.ensures.long c.lanes-2.ensures.long c.lanes-3.ensures.long c.lanes-4.ensures.long c.lanes-5.ensures.long c.lanes-6.ensures.long c.lanes-7.ensures.long c.lanes-8.ensures.long

pub returns-clause-small : goal.returns-clause-small
returns-clause-small c i p I P =
    let list : List (List ℕ) = c.lanes.result ∷ c.lanes-2.result ∷ c.lanes-3.result ∷ c.lanes-4.result ∷ c.lanes-5.result ∷ c.lanes-6.result ∷ c.lanes-7.result ∷ c.lanes-8.result ∷ [] in
    eight (λ k. get_or (get_or list k []) p 0 < 256) (c.lanes.ensures.small p P) (c.lanes-2.ensures.small p P) (c.lanes-3.ensures.small p P) (c.lanes-4.ensures.small p P) (c.lanes-5.ensures.small p P) (c.lanes-6.ensures.small p P) (c.lanes-7.ensures.small p P) (c.lanes-8.ensures.small p P) i I

pub returns-clause-same : goal.returns-clause-same
returns-clause-same c =
    let list : List (List ℕ) = c.lanes.result ∷ c.lanes-2.result ∷ c.lanes-3.result ∷ c.lanes-4.result ∷ c.lanes-5.result ∷ c.lanes-6.result ∷ c.lanes-7.result ∷ c.lanes-8.result ∷ [] in
    eight (λ k. moved lane_of (get_or list k []) ≡ get_or c.args.blocks.now k []) c.lanes.ensures.same c.lanes-2.ensures.same c.lanes-3.ensures.same c.lanes-4.ensures.same c.lanes-5.ensures.same c.lanes-6.ensures.same c.lanes-7.ensures.same c.lanes-8.ensures.same
