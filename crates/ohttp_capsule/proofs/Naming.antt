-- Which suite a header names.
use Rattle.std.proofs.Common.{◌≡◌, ◌⊎◌, ℕ, Bool, true, false, IsTrue, List, [], ◌∷◌, get_or, bytes_eq, Some, None, refl, sym, ap, subst, ◌∙◌, inl, inr, arith}
use Rattle.std.specs.List.{find}
use Rattle.std.proofs.lemmas.Bool.{cond-true, cond-false}
use Rattle.std.proofs.lemmas.Slice.Eq.{bytes_eq-Decides}
use Rattle.hkdf_labelled.specs.Suites.{kdf_id, encrypts}
use Rattle.hkdf_labelled.specs.declared.suites.Suite.{Suite}
use Rattle.hkdf_labelled.specs.declared.suites.Kdf.{Kdf}
use Rattle.hkdf_labelled.specs.declared.suites.Kdf.TheVariants.{Sha256, Sha384, Sha512}
use Rattle.hkdf_labelled.specs.declared.suites.Aead.{Aead}
use Rattle.hkdf_labelled.specs.declared.suites.Aead.TheVariants.{Aes128, Aes256, ExportOnly}
use Rattle.ohttp_capsule.specs.Headers.{header, suites_of, suite_named, Names}
use Rattle.ohttp_capsule.specs.Laws.{NamesOne}

-- ---- the algorithms are read back from a header

abbrev suite_with : ℕ → Kdf → Aead → Suite
suite_with kem kdf aead = record { kem = kem; kdf = kdf; aead = aead }

kdf_at : (id kem : ℕ) (kdf : Kdf) (aead : Aead)
    → get_or (header id (suite_with kem kdf aead)) 4 0 ≡ kdf_id kdf
kdf_at id kem Sha256 aead = refl
kdf_at id kem Sha384 aead = refl
kdf_at id kem Sha512 aead = refl

-- the last byte of the AEAD's id
abbrev aead_byte : Aead → ℕ
aead_byte Aes128 = 1
aead_byte Aes256 = 2
aead_byte ExportOnly = 255

aead_at : (id kem : ℕ) (kdf : Kdf) (aead : Aead)
    → get_or (header id (suite_with kem kdf aead)) 6 0 ≡ aead_byte aead
aead_at id kem kdf Aes128 = refl
aead_at id kem kdf Aes256 = refl
aead_at id kem kdf ExportOnly = refl

same_kdf : (a b : Kdf) → kdf_id a ≡ kdf_id b → a ≡ b
same_kdf Sha256 Sha256 e = refl
same_kdf Sha256 Sha384 e = absurd (omega arith)
same_kdf Sha256 Sha512 e = absurd (omega arith)
same_kdf Sha384 Sha256 e = absurd (omega arith)
same_kdf Sha384 Sha384 e = refl
same_kdf Sha384 Sha512 e = absurd (omega arith)
same_kdf Sha512 Sha256 e = absurd (omega arith)
same_kdf Sha512 Sha384 e = absurd (omega arith)
same_kdf Sha512 Sha512 e = refl

same_aead : (a b : Aead) → aead_byte a ≡ aead_byte b → a ≡ b
same_aead Aes128 Aes128 e = refl
same_aead Aes128 Aes256 e = absurd (omega arith)
same_aead Aes128 ExportOnly e = absurd (omega arith)
same_aead Aes256 Aes128 e = absurd (omega arith)
same_aead Aes256 Aes256 e = refl
same_aead Aes256 ExportOnly e = absurd (omega arith)
same_aead ExportOnly Aes128 e = absurd (omega arith)
same_aead ExportOnly Aes256 e = absurd (omega arith)
same_aead ExportOnly ExportOnly e = refl

same_suite : (id : ℕ) (s t : Suite) → s.kem ≡ t.kem → header id s ≡ header id t → s ≡ t
same_suite id s t kem e =
    let kdf : s.kdf ≡ t.kdf = same_kdf s.kdf t.kdf
    (sym (kdf_at id s.kem s.kdf s.aead) ∙ ap (λ bytes. get_or bytes 4 0) e
    ∙ kdf_at id t.kem t.kdf t.aead) in
    let aead : s.aead ≡ t.aead = same_aead s.aead t.aead
    (sym (aead_at id s.kem s.kdf s.aead) ∙ ap (λ bytes. get_or bytes 6 0) e
    ∙ aead_at id t.kem t.kdf t.aead) in
    ap (λ n. suite_with n s.kdf s.aead) kem
    ∙ ap (λ k. suite_with t.kem k s.aead) kdf
    ∙ ap (suite_with t.kem t.kdf) aead

pub names_one_lem : NamesOne
names_one_lem id kem bytes s t a b =
    same_suite id s t (a.kem_is ∙ sym b.kem_is) (a.header_is ∙ sym b.header_is)

-- ---- what is found among the suites of a KEM

-- a suite of the KEM that encrypts
record IsOf (kem : ℕ) (s : Suite) : Type 0 where
  kem_is : s.kem ≡ kem
  encrypts_is : IsTrue (encrypts s.aead)

AreOf : ℕ → List Suite → Type 0
AreOf kem [] = Unit {0}
AreOf kem (s ∷ ss) = IsOf kem s × AreOf kem ss

Has : Suite → List Suite → Type 0
Has x [] = ⊥
Has x (s ∷ ss) = (s ≡ x) ⊎ Has x ss

record Found (test : Suite → Bool) (kem : ℕ) (s : Suite) : Type 0 where
  passes : test s ≡ true
  is_of : IsOf kem s

found_in : (test : Suite → Bool) (kem : ℕ) (ss : List Suite) (x : Suite) → AreOf kem ss
    → find test ss ≡ Some x → Found test kem x
unfolding AreOf
found_in test kem [] x of e = absurd (let no : None ≡ Some x = e in cc)
found_in test kem (s ∷ ss) x of e =
    let by : (b : Bool) → test s ≡ b → Found test kem x = elim [
      | true ↦ λ t.
          let first : Some s ≡ Some x =
          sym (cond-true (test s) (Some s) (find test ss) t) ∙ e in
          let same : s ≡ x = cc in
          record {
            passes = ap test (sym same) ∙ t;
            is_of = record {
              kem_is = ap (λ (v : Suite). v.kem) (sym same) ∙ of.0.kem_is;
              encrypts_is = ap (λ (v : Suite). encrypts v.aead) (sym same) ∙ of.0.encrypts_is;
            };
          }
      | false ↦ λ f.
          found_in test kem ss x of.1 (sym (cond-false (test s) (Some s) (find test ss) f) ∙ e)
    ] in
    by (test s) refl

find_only : (test : Suite → Bool) (kem : ℕ) (x : Suite) (ss : List Suite) → test x ≡ true
    → ((s : Suite) → s.kem ≡ kem → test s ≡ true → s ≡ x) → AreOf kem ss → Has x ss
    → find test ss ≡ Some x
unfolding AreOf Has
find_only test kem x [] passes only of has = absurd has
find_only test kem x (s ∷ ss) passes only of has =
    let by : (b : Bool) → test s ≡ b → find test (s ∷ ss) ≡ Some x = elim [
      | true ↦ λ t.
          cond-true (test s) (Some s) (find test ss) t ∙ ap Some (only s of.0.kem_is t)
      | false ↦ λ f.
          let rest : Has x ss = elim has [
            | inl same ↦ absurd (let no : true ≡ false = sym passes ∙ ap test (sym same) ∙ f in cc)
            | inr later ↦ later
          ] in
          cond-false (test s) (Some s) (find test ss) f
          ∙ find_only test kem x ss passes only of.1 rest
    ] in
    by (test s) refl

all_of : (kem : ℕ) → AreOf kem (suites_of kem)
unfolding AreOf suites_of
all_of kem =
    let is : (kdf : Kdf) (aead : Aead) → IsTrue (encrypts aead) → IsOf kem (suite_with kem kdf aead) =
    λ kdf aead can. record { kem_is = refl; encrypts_is = can } in (
      is Sha256 Aes128 refl,
      (
        is Sha256 Aes256 refl,
        (
          is Sha384 Aes128 refl,
          (
            is Sha384 Aes256 refl,
            (
              is Sha512 Aes128 refl,
              (is Sha512 Aes256 refl, tt),
            ),
          ),
        ),
      ),
    )

has_each : (kem : ℕ) (kdf : Kdf) (aead : Aead) → IsTrue (encrypts aead)
    → Has (suite_with kem kdf aead) (suites_of kem)
unfolding Has suites_of
has_each kem Sha256 Aes128 can = inl refl
has_each kem Sha256 Aes256 can = inr (inl refl)
has_each kem Sha384 Aes128 can = inr (inr (inl refl))
has_each kem Sha384 Aes256 can = inr (inr (inr (inl refl)))
has_each kem Sha512 Aes128 can = inr (inr (inr (inr (inl refl))))
has_each kem Sha512 Aes256 can = inr (inr (inr (inr (inr (inl refl)))))
has_each kem kdf ExportOnly can = absurd (let no : false ≡ true = can in cc)

abbrev names_bytes : ℕ → List ℕ → Suite → Bool
names_bytes id bytes suite = bytes_eq (header id suite) bytes

-- the suite that is found is the one that is named
pub suite_found : (id kem : ℕ) (bytes : List ℕ) (s : Suite) → suite_named id kem bytes ≡ Some s
    → Names id kem bytes s
suite_found id kem bytes s e =
    let found = found_in (names_bytes id bytes) kem (suites_of kem) s (all_of kem) e in
    record {
      kem_is = found.is_of.kem_is;
      encrypts_is = found.is_of.encrypts_is;
      header_is = (bytes_eq-Decides (header id s) bytes).0 found.passes;
    }

pub suite_is_found : (id kem : ℕ) (bytes : List ℕ) (s : Suite) → Names id kem bytes s
    → suite_named id kem bytes ≡ Some s
suite_is_found id kem bytes s named =
    let here : Has s (suites_of kem) =
    let at : Has (suite_with kem s.kdf s.aead) (suites_of kem) =
    has_each kem s.kdf s.aead named.encrypts_is in
    subst (λ (n : ℕ). Has (suite_with n s.kdf s.aead) (suites_of kem)) (sym named.kem_is) at in
    find_only (names_bytes id bytes) kem s (suites_of kem)
    ((bytes_eq-Decides (header id s) bytes).1 named.header_is)
    (λ t kem_is passes. same_suite id t s (kem_is ∙ sym named.kem_is)
    ((bytes_eq-Decides (header id t) bytes).0 passes ∙ sym named.header_is))
    (all_of kem) here

pub none_is_named : (id kem : ℕ) (bytes : List ℕ) → suite_named id kem bytes ≡ None
    → (s : Suite) → ¬ Names id kem bytes s
none_is_named id kem bytes e s named =
    let no : None ≡ Some s = sym e ∙ suite_is_found id kem bytes s named in
    cc
