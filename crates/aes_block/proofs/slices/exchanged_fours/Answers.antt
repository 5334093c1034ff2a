use Rattle.std.proofs.Common.{ℕ, List, [], ◌∷◌}
use Rattle.aes_block.proofs.Turning.{fours_long, fours_small, fours_bits}
use Rattle.aes_block.proofs.slices.exchanged_fours.Goals as goal

pub returns-clause-long : goal.returns-clause-long
returns-clause-long c =
    let r : List (List ℕ) = c.lower.result ∷ c.lower-2.result ∷ c.lower-3.result ∷ c.lower-4.result ∷ c.upper.result ∷ c.upper-2.result ∷ c.upper-3.result ∷ c.upper-4.result ∷ [] in
    fours_long c.args.q r c.requires record {
      r0 = c.lower.ensures;
      r1 = c.lower-2.ensures;
      r2 = c.lower-3.ensures;
      r3 = c.lower-4.ensures;
      r4 = c.upper.ensures;
      r5 = c.upper-2.ensures;
      r6 = c.upper-3.ensures;
      r7 = c.upper-4.ensures;
    }

pub returns-clause-small : goal.returns-clause-small
returns-clause-small c =
    let r : List (List ℕ) = c.lower.result ∷ c.lower-2.result ∷ c.lower-3.result ∷ c.lower-4.result ∷ c.upper.result ∷ c.upper-2.result ∷ c.upper-3.result ∷ c.upper-4.result ∷ [] in
    fours_small c.args.q r c.requires record {
      r0 = c.lower.ensures;
      r1 = c.lower-2.ensures;
      r2 = c.lower-3.ensures;
      r3 = c.lower-4.ensures;
      r4 = c.upper.ensures;
      r5 = c.upper-2.ensures;
      r6 = c.upper-3.ensures;
      r7 = c.upper-4.ensures;
    }

pub returns-clause-bits : goal.returns-clause-bits
returns-clause-bits c =
    let r : List (List ℕ) = c.lower.result ∷ c.lower-2.result ∷ c.lower-3.result ∷ c.lower-4.result ∷ c.upper.result ∷ c.upper-2.result ∷ c.upper-3.result ∷ c.upper-4.result ∷ [] in
    fours_bits c.args.q r c.requires record {
      r0 = c.lower.ensures;
      r1 = c.lower-2.ensures;
      r2 = c.lower-3.ensures;
      r3 = c.lower-4.ensures;
      r4 = c.upper.ensures;
      r5 = c.upper-2.ensures;
      r6 = c.upper-3.ensures;
      r7 = c.upper-4.ensures;
    }
