-- The parts of strings that were joined.
use Rattle.std.proofs.Common.{◌≡◌, ℕ, ◌+◌, ◌-◌, ◌*◌, List, ◌++◌, length, take, drop, arith, ap, sym, ◌∙◌, append_assoc}
use Rattle.std.proofs.lemmas.Grind.{common_steps}
use Rattle.std.proofs.lemmas.List.{take_at, drop_at, length-append}
use Rattle.ring_core.specs.Sets.{Set}
use Rattle.sntrup_kem.specs.Sizes.{small_size, public_size}
use Rattle.sntrup_kem.specs.Kem.{f_part, ginv_part, public_part, cache_part}

drop_two : (a b rest : List ℕ) (n : ℕ) → length a + length b ≡ n → drop n (a ++ (b ++ rest)) ≡ rest
drop_two a b rest n e =
    ap (λ (t : List ℕ). drop n t) (sym (append_assoc a b rest))
    ∙ drop_at (a ++ b) rest n (omega (arith, length-append a b))

regroup : (a b c d e : List ℕ) → (((a ++ b) ++ c) ++ d) ++ e ≡ a ++ (b ++ (c ++ (d ++ e)))
regroup a b c d e = simp append_assoc

length_four : (a b c d : List ℕ) → length (((a ++ b) ++ c) ++ d) ≡ length a + length b + length c + length d
length_four a b c d =
    omega (arith, length-append ((a ++ b) ++ c) d, length-append (a ++ b) c, length-append a b)

-- a secret key's bytes as they were joined, with parts of the right sizes
pub record AreJoined (set : Set) (sk f_enc ginv_enc pk rho cache : List ℕ) : Type 0 where
  pub is : sk ≡ f_enc ++ ginv_enc ++ pk ++ rho ++ cache
  pub f_count : length f_enc ≡ small_size set
  pub ginv_count : length ginv_enc ≡ small_size set
  pub public_count : length pk ≡ public_size set
  pub rho_count : length rho ≡ small_size set

-- the parts of a secret key but for rho
pub record Parts (set : Set) (sk f_enc ginv_enc pk cache : List ℕ) : Type 0 where
  pub f_is : f_part set sk ≡ f_enc
  pub ginv_is : ginv_part set sk ≡ ginv_enc
  pub public_is : public_part set sk ≡ pk
  pub cache_is : cache_part set sk ≡ cache

pub parts_of : (set : Set) (sk a b pk rho cache : List ℕ) → AreJoined set sk a b pk rho cache → Parts set sk a b pk cache
parts_of set sk a b pk rho cache j =
    let right : sk ≡ a ++ (b ++ (pk ++ (rho ++ cache))) = j.is ∙ regroup a b pk rho cache in
    let size = small_size set in
    record {
      f_is = ap (f_part set) right ∙ take_at a (b ++ (pk ++ (rho ++ cache))) size j.f_count;
      ginv_is = ap (ginv_part set) right
          ∙ ap (λ (t : List ℕ). take size t) (drop_at a (b ++ (pk ++ (rho ++ cache))) size j.f_count)
          ∙ take_at b (pk ++ (rho ++ cache)) size j.ginv_count;
      public_is = ap (public_part set) right
          ∙ ap (λ (t : List ℕ). take (public_size set) t) (drop_two a b (pk ++ (rho ++ cache)) (2 * size) (omega (arith, j.f_count, j.ginv_count)))
          ∙ take_at pk (rho ++ cache) (public_size set) j.public_count;
      cache_is = ap (cache_part set) j.is
          ∙ drop_at (((a ++ b) ++ pk) ++ rho) cache (3 * size + public_size set) (omega (arith, length_four a b pk rho, j.f_count, j.ginv_count, j.public_count, j.rho_count));
    }

pub rest_is : (xs : List ℕ) (n : ℕ) → take (length xs - n) (drop n xs) ≡ drop n xs
rest_is xs n = grind (arith, common_steps)
