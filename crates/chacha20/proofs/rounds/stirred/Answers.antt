use Rattle.std.proofs.Common.{◌∷◌, [], ap, ◌∙◌}
use Rattle.std.specs.Simd.Lanes.{zip2}
use Rattle.rand_chacha.specs.Block.{add32}
use Rattle.chacha20.specs.ChaCha20.{stirred}
use Rattle.chacha20.specs.Lanes.{lane}
use Rattle.chacha20.proofs.rounds.stirred.Goals as goal

pub returns : goal.returns
unfolding stirred
returns c j h =
    (λ i. c.add.ensures j h i ∷ c.add-2.ensures j h i ∷ c.add-3.ensures j h i ∷ c.add-4.ensures j h i
    ∷ c.add-5.ensures j h i ∷ c.add-6.ensures j h i ∷ c.add-7.ensures j h i ∷ c.add-8.ensures j h i
    ∷ c.add-9.ensures j h i ∷ c.add-10.ensures j h i ∷ c.add-11.ensures j h i ∷ c.add-12.ensures j h i
    ∷ c.add-13.ensures j h i ∷ c.add-14.ensures j h i ∷ c.add-15.ensures j h i ∷ c.add-16.ensures j h i ∷ [])
    ∙ ap (λ y. zip2 add32 y (lane j c.args.x)) (c.doubly_rounded-y.ensures j h)
