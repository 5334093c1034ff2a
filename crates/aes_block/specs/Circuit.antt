-- ---- for the proofs
-- The S-box as a circuit (Boyar and Peralta's, of 115 gates) without its four complements, so that the
-- constant of the affine map is left out: d is the element that a list too short gives, x is the sum of
-- bits and a their product.
use Rattle.std.specs.Prelude.{List, [], ◌∷◌, slice_index_or}

unfoldable pub outer_sums : {A : Type 0} → A → (A → A → A) → (A → A → A) → List A → List A
outer_sums d x a q =
    let q0 = slice_index_or q 0 d in
    let q1 = slice_index_or q 1 d in
    let q2 = slice_index_or q 2 d in
    let q3 = slice_index_or q 3 d in
    let q4 = slice_index_or q 4 d in
    let q5 = slice_index_or q 5 d in
    let q6 = slice_index_or q 6 d in
    let q7 = slice_index_or q 7 d in
    let y14 = x q4 q2 in
    let y13 = x q7 q1 in
    let y9 = x q7 q4 in
    let y8 = x q7 q2 in
    let t0 = x q6 q5 in
    let y1 = x t0 q0 in
    let y4 = x y1 q4 in
    let y12 = x y13 y14 in
    let y2 = x y1 q7 in
    let y5 = x y1 q1 in
    let y3 = x y5 y8 in
    let t1 = x q3 y12 in
    let y15 = x t1 q2 in
    let y20 = x t1 q6 in
    let y6 = x y15 q0 in
    let y10 = x y15 t0 in
    let y11 = x y20 y9 in
    let y7 = x q0 y11 in
    let y17 = x y10 y11 in
    let y19 = x y10 y8 in
    let y16 = x t0 y11 in
    let y21 = x y13 y16 in
    let y18 = x q7 y16 in
    y1 ∷ y2 ∷ y3 ∷ y4 ∷ y5 ∷ y6 ∷ y7 ∷ y8 ∷ y9 ∷ y10 ∷ y11 ∷ y12 ∷ y13 ∷ y14 ∷ y15 ∷ y16 ∷ y17 ∷ y18 ∷ y19 ∷ y20 ∷ y21 ∷ q0 ∷ []

unfoldable pub inner_sums : {A : Type 0} → A → (A → A → A) → (A → A → A) → List A → List A
inner_sums d x a y =
    let y1 = slice_index_or y 0 d in
    let y2 = slice_index_or y 1 d in
    let y3 = slice_index_or y 2 d in
    let y4 = slice_index_or y 3 d in
    let y5 = slice_index_or y 4 d in
    let y6 = slice_index_or y 5 d in
    let y7 = slice_index_or y 6 d in
    let y8 = slice_index_or y 7 d in
    let y9 = slice_index_or y 8 d in
    let y10 = slice_index_or y 9 d in
    let y11 = slice_index_or y 10 d in
    let y12 = slice_index_or y 11 d in
    let y13 = slice_index_or y 12 d in
    let y14 = slice_index_or y 13 d in
    let y15 = slice_index_or y 14 d in
    let y16 = slice_index_or y 15 d in
    let y17 = slice_index_or y 16 d in
    let y18 = slice_index_or y 17 d in
    let y19 = slice_index_or y 18 d in
    let y20 = slice_index_or y 19 d in
    let y21 = slice_index_or y 20 d in
    let q0 = slice_index_or y 21 d in
    let t2 = a y12 y15 in
    let t3 = a y3 y6 in
    let t4 = x t3 t2 in
    let t5 = a y4 q0 in
    let t6 = x t5 t2 in
    let t7 = a y13 y16 in
    let t8 = a y5 y1 in
    let t9 = x t8 t7 in
    let t10 = a y2 y7 in
    let t11 = x t10 t7 in
    let t12 = a y9 y11 in
    let t13 = a y14 y17 in
    let t14 = x t13 t12 in
    let t15 = a y8 y10 in
    let t16 = x t15 t12 in
    let t17 = x t4 t14 in
    let t18 = x t6 t16 in
    let t19 = x t9 t14 in
    let t20 = x t11 t16 in
    let t21 = x t17 y20 in
    let t22 = x t18 y19 in
    let t23 = x t19 y21 in
    let t24 = x t20 y18 in
    t21 ∷ t22 ∷ t23 ∷ t24 ∷ []

unfoldable pub inner_inverse : {A : Type 0} → A → (A → A → A) → (A → A → A) → List A → List A
inner_inverse d x a t =
    let t21 = slice_index_or t 0 d in
    let t22 = slice_index_or t 1 d in
    let t23 = slice_index_or t 2 d in
    let t24 = slice_index_or t 3 d in
    let t25 = x t21 t22 in
    let t26 = a t21 t23 in
    let t27 = x t24 t26 in
    let t28 = a t25 t27 in
    let t29 = x t28 t22 in
    let t30 = x t23 t24 in
    let t31 = x t22 t26 in
    let t32 = a t31 t30 in
    let t33 = x t32 t24 in
    let t34 = x t23 t33 in
    let t35 = x t27 t33 in
    let t36 = a t24 t35 in
    let t37 = x t36 t34 in
    let t38 = x t27 t36 in
    let t39 = a t29 t38 in
    let t40 = x t25 t39 in
    let t41 = x t40 t37 in
    let t42 = x t29 t33 in
    let t43 = x t29 t40 in
    let t44 = x t33 t37 in
    let t45 = x t42 t41 in
    t29 ∷ t33 ∷ t37 ∷ t40 ∷ t41 ∷ t42 ∷ t43 ∷ t44 ∷ t45 ∷ []

unfoldable pub inner_products : {A : Type 0} → A → (A → A → A) → (A → A → A) → List A → List A → List A
inner_products d x a y t =
    let y1 = slice_index_or y 0 d in
    let y2 = slice_index_or y 1 d in
    let y3 = slice_index_or y 2 d in
    let y4 = slice_index_or y 3 d in
    let y5 = slice_index_or y 4 d in
    let y6 = slice_index_or y 5 d in
    let y7 = slice_index_or y 6 d in
    let y8 = slice_index_or y 7 d in
    let y9 = slice_index_or y 8 d in
    let y10 = slice_index_or y 9 d in
    let y11 = slice_index_or y 10 d in
    let y12 = slice_index_or y 11 d in
    let y13 = slice_index_or y 12 d in
    let y14 = slice_index_or y 13 d in
    let y15 = slice_index_or y 14 d in
    let y16 = slice_index_or y 15 d in
    let y17 = slice_index_or y 16 d in
    let q0 = slice_index_or y 21 d in
    let t29 = slice_index_or t 0 d in
    let t33 = slice_index_or t 1 d in
    let t37 = slice_index_or t 2 d in
    let t40 = slice_index_or t 3 d in
    let t41 = slice_index_or t 4 d in
    let t42 = slice_index_or t 5 d in
    let t43 = slice_index_or t 6 d in
    let t44 = slice_index_or t 7 d in
    let t45 = slice_index_or t 8 d in
    let z0 = a t44 y15 in
    let z1 = a t37 y6 in
    let z2 = a t33 q0 in
    let z3 = a t43 y16 in
    let z4 = a t40 y1 in
    let z5 = a t29 y7 in
    let z6 = a t42 y11 in
    let z7 = a t45 y17 in
    let z8 = a t41 y10 in
    let z9 = a t44 y12 in
    let z10 = a t37 y3 in
    let z11 = a t33 y4 in
    let z12 = a t43 y13 in
    let z13 = a t40 y5 in
    let z14 = a t29 y2 in
    let z15 = a t42 y9 in
    let z16 = a t45 y14 in
    let z17 = a t41 y8 in
    z0 ∷ z1 ∷ z2 ∷ z3 ∷ z4 ∷ z5 ∷ z6 ∷ z7 ∷ z8 ∷ z9 ∷ z10 ∷ z11 ∷ z12 ∷ z13 ∷ z14 ∷ z15 ∷ z16 ∷ z17 ∷ []

unfoldable pub last_sums : {A : Type 0} → A → (A → A → A) → (A → A → A) → List A → List A
last_sums d x a z =
    let z0 = slice_index_or z 0 d in
    let z1 = slice_index_or z 1 d in
    let z2 = slice_index_or z 2 d in
    let z3 = slice_index_or z 3 d in
    let z4 = slice_index_or z 4 d in
    let z5 = slice_index_or z 5 d in
    let z6 = slice_index_or z 6 d in
    let z7 = slice_index_or z 7 d in
    let z8 = slice_index_or z 8 d in
    let z9 = slice_index_or z 9 d in
    let z10 = slice_index_or z 10 d in
    let z11 = slice_index_or z 11 d in
    let z12 = slice_index_or z 12 d in
    let z13 = slice_index_or z 13 d in
    let z14 = slice_index_or z 14 d in
    let z15 = slice_index_or z 15 d in
    let z16 = slice_index_or z 16 d in
    let z17 = slice_index_or z 17 d in
    let t46 = x z15 z16 in
    let t47 = x z10 z11 in
    let t48 = x z5 z13 in
    let t49 = x z9 z10 in
    let t50 = x z2 z12 in
    let t51 = x z2 z5 in
    let t52 = x z7 z8 in
    let t53 = x z0 z3 in
    let t54 = x z6 z7 in
    let t55 = x z16 z17 in
    let t56 = x z12 t48 in
    let t57 = x t50 t53 in
    let t58 = x z4 t46 in
    let t59 = x z3 t54 in
    let t60 = x t46 t57 in
    let t61 = x z14 t57 in
    let t62 = x t52 t58 in
    let t63 = x t49 t58 in
    let t64 = x z4 t59 in
    let t65 = x t61 t62 in
    let t66 = x z1 t63 in
    let s0 = x t59 t63 in
    let s6 = x t56 t62 in
    let s7 = x t48 t60 in
    let t67 = x t64 t65 in
    let s3 = x t53 t66 in
    let s4 = x t51 t66 in
    let s5 = x t47 t65 in
    let s1 = x t64 s3 in
    let s2 = x t55 t67 in
    s7 ∷ s6 ∷ s5 ∷ s4 ∷ s3 ∷ s2 ∷ s1 ∷ s0 ∷ []

-- the whole circuit
unfoldable pub circuit : {A : Type 0} → A → (A → A → A) → (A → A → A) → List A → List A
circuit d x a q =
    let y = outer_sums d x a q in
    last_sums d x a (inner_products d x a y (inner_inverse d x a (inner_sums d x a y)))
