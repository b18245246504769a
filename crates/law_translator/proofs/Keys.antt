-- Keys are equal where their test says so; lists of keys without repetition.
use Rattle.std.proofs.Common.{◌≡◌, ℕ, true, List, [], ◌∷◌, ◌++◌, refl, sym, inl, inr, ◌⊎◌}
use Rattle.std.specs.Prelude.{◌==◌}
use Rattle.std.proofs.lemmas.Bool.{eqb-true}
use Rattle.law_common.proofs.Booleans.{and_both}
use Rattle.law_translator.proofs.Common.{same_dir}
use Rattle.usb_base.specs.declared.packets.Dir.{Dir}
use Rattle.usb_base.specs.declared.packets.EpKind.{EpKind}
use Rattle.usb_base.specs.declared.packets.EpKind.TheVariants.{Control, Iso, Bulk, Interrupt}
use Rattle.hub_keys.specs.Keys.{is_same_key, is_same_direction, is_same_kind}
use Rattle.hub_keys.specs.declared.key.Key.{Key}
use Rattle.law_translator.specs.Premises.{In}

same_kind : (a b : EpKind) → is_same_kind a b ≡ true → a ≡ b
same_kind Control Control h = refl
same_kind Iso Iso h = refl
same_kind Bulk Bulk h = refl
same_kind Interrupt Interrupt h = refl
same_kind _ _ h = absurd cc

make : ℕ → ℕ → Dir → EpKind → Key
make addr ep dir kind = record { addr = addr; ep = ep; dir = dir; kind = kind }

made : (a : Key) → make a.addr a.ep a.dir a.kind ≡ a
unfolding make
made a = refl

pub same_key : (a b : Key) → is_same_key a b ≡ true → a ≡ b
same_key a b h =
    let h1 = and_both _ (is_same_kind a.kind b.kind) h in
    let h2 = and_both _ (is_same_direction a.dir b.dir) h1.0 in
    let h3 = and_both _ (a.ep == b.ep) h2.0 in
    let e1 : a.addr ≡ b.addr = eqb-true _ _ h3.0 in
    let e2 : a.ep ≡ b.ep = eqb-true _ _ h3.1 in
    let e3 : a.dir ≡ b.dir = same_dir _ _ h2.1 in
    let e4 : a.kind ≡ b.kind = same_kind _ _ h1.1 in
    let m1 = made a in let m2 = made b in cc

-- ---- lists of keys

abbrev pub Distinct : List Key → Type 0
Distinct [] = Unit {0}
Distinct (k ∷ ks) = (In k ks → ⊥) × Distinct ks

abbrev pub AllIn : List Key → List Key → Type 0
AllIn [] ys = Unit {0}
AllIn (k ∷ ks) ys = In k ys × AllIn ks ys

pub in_snoc : (j k : Key) (ks : List Key) → In j (ks ++ k ∷ []) → In j ks ⊎ (j ≡ k)
in_snoc j k [] (inl e) = inr e
in_snoc j k [] (inr m) = absurd m
in_snoc j k (x ∷ xs) (inl e) = inl (inl e)
in_snoc j k (x ∷ xs) (inr m) = elim (in_snoc j k xs m) [ inl n ↦ inl (inr n) | inr e ↦ inr e ]

pub distinct_snoc : (k : Key) (ks : List Key) → Distinct ks → (In k ks → ⊥) → Distinct (ks ++ k ∷ [])
distinct_snoc k [] d not = (λ m. m, tt)
distinct_snoc k (x ∷ xs) d not = (
  λ m. elim (in_snoc x k xs m) [ inl n ↦ d.0 n | inr e ↦ not (inl (sym e)) ],
  distinct_snoc k xs d.1 (λ m. not (inr m)),
)

pub all_in_snoc : (k : Key) (ks ys : List Key) → AllIn ks ys → In k ys → AllIn (ks ++ k ∷ []) ys
all_in_snoc k [] ys all m = (m, tt)
all_in_snoc k (x ∷ xs) ys all m = (all.0, all_in_snoc k xs ys all.1 m)
