-- Of an endpoint on its way out of the ring: why it has ended, and whether it may still be met.
use Rattle.std.proofs.Common.{◌≡◌, ◌≢◌, ◌⊎◌, ℕ, zero, suc, ◌==◌, Bool, true, false, not, ◌&&◌, ◌||◌, List, [], ◌∷◌, ◌++◌, slice_get, Option, Some, None, if◌then◌else◌, ap, sym, subst, ◌∙◌, ⊎_elim, inl, inr, refl}
use Rattle.std.proofs.lemmas.Bool.{false≢true, eqb-true, eq-eqb, and_parts, or_cases, or_left, or_right, or_parts, or_from}
use Rattle.law_common.proofs.Booleans.{or_joined}
use Rattle.usb_base.specs.declared.endpoints.EndCause.{EndCause}
use Rattle.usb_base.specs.declared.endpoints.EndCause.TheVariants as causes
use Rattle.drv_table.specs.declared.content.Endpoint.{Endpoint}
use Rattle.drv_table.specs.DriverContent.{DriverContent}
use Rattle.drv_table.specs.Releases.{ended_by_cancel, is_told}
use Rattle.law_driver.specs.endpoint_lives.Lives.{any_at, is_one_of, told_end, may_meet}

-- ---- one of a list

pub record IsAt (f : ℕ → Endpoint → Bool) (xs : List Endpoint) : Type 0 where
  pub number : ℕ
  pub endpoint : Endpoint
  pub here : slice_get xs number ≡ Some endpoint
  pub is : f number endpoint ≡ true

pub any_there : (f : ℕ → Endpoint → Bool) (xs : List Endpoint) → any_at f xs ≡ true → IsAt f xs
any_there f [] any = absurd (false≢true any)
any_there f (x ∷ xs) any =
    ⊎_elim (λ (on : f zero x ≡ true). record { number = zero; endpoint = x; here = refl; is = on })
    (λ (on : any_at (λ e y. f (suc e) y) xs ≡ true). let r = any_there (λ e y. f (suc e) y) xs on in record { number = suc r.number; endpoint = r.endpoint; here = r.here; is = r.is })
    (or_cases (f zero x) (any_at (λ e y. f (suc e) y) xs) any)

pub there_any : (f : ℕ → Endpoint → Bool) (xs : List Endpoint) (e : ℕ) (x : Endpoint) → slice_get xs e ≡ Some x → f e x ≡ true → any_at f xs ≡ true
there_any f [] e x here is = absurd (cc)
there_any f (y ∷ ys) zero x here is =
    let same : y ≡ x = cc in or_left (f zero y) (any_at (λ e z. f (suc e) z) ys) (ap (f zero) same ∙ is)
there_any f (y ∷ ys) (suc e) x here is = or_right (f zero y) (any_at (λ e z. f (suc e) z) ys) (there_any (λ e z. f (suc e) z) ys e x here is)

pub one_of_joined : (e : ℕ) (es fs : List ℕ) → is_one_of e (es ++ fs) ≡ (is_one_of e es || is_one_of e fs)
one_of_joined e [] fs = refl
one_of_joined e (f ∷ es) fs = ap (λ (b : Bool). (e == f) || b) (one_of_joined e es fs) ∙ or_joined (e == f) (is_one_of e es) (is_one_of e fs)

pub one_of_end : (e : ℕ) (es : List ℕ) → is_one_of e (es ++ e ∷ []) ≡ true
one_of_end e es = one_of_joined e es (e ∷ []) ∙ or_right (is_one_of e es) (is_one_of e (e ∷ [])) (or_left (e == e) false (eq-eqb e e refl))

pub not_itself : (e f : ℕ) → e ≢ f → is_one_of e (f ∷ []) ≡ false
not_itself e f other = by (e == f) refl
  where
    by : (b : Bool) → (e == f) ≡ b → ((e == f) || false) ≡ false
    by true is = absurd (other (eqb-true e f is))
    by false is = ap (λ (c : Bool). c || false) is

pub one_of_others : (e f : ℕ) (es : List ℕ) → e ≢ f → is_one_of e (es ++ f ∷ []) ≡ is_one_of e es
one_of_others e f es other = one_of_joined e es (f ∷ []) ∙ by (is_one_of e es) refl
  where
    by : (b : Bool) → is_one_of e es ≡ b → (is_one_of e es || is_one_of e (f ∷ [])) ≡ is_one_of e es
    by true is = or_left (is_one_of e es) (is_one_of e (f ∷ [])) is ∙ sym is
    by false is = or_from (is_one_of e es) (is_one_of e (f ∷ [])) is (not_itself e f other) ∙ sym is

-- ---- why it has ended

end_by : (x : Endpoint) (b : Bool) → is_told x ≡ b → told_end x ≡ (if b then None else x.ended)
end_by x b is = ap (λ (c : Bool). if c then None else x.ended) is

pub untold_same : (x : Endpoint) → is_told x ≡ false → told_end x ≡ x.ended
untold_same x is = end_by x false is

pub none_told : (x : Endpoint) → x.ended ≡ None → told_end x ≡ None
none_told x goes = by (is_told x) refl
  where
    by : (b : Bool) → is_told x ≡ b → told_end x ≡ None
    by true is = end_by x true is
    by false is = end_by x false is ∙ goes

pub record HasEnded (x : Endpoint) (c : EndCause) : Type 0 where
  pub ended : x.ended ≡ Some c
  pub said : is_told x ≡ false

pub told_some : (x : Endpoint) (c : EndCause) → told_end x ≡ Some c → HasEnded x c
told_some x c on = by (is_told x) refl
  where
    by : (b : Bool) → is_told x ≡ b → HasEnded x c
    by true is = let none : told_end x ≡ None = end_by x true is in absurd (cc)
    by false is = record { ended = sym (end_by x false is) ∙ on; said = is }

-- an endpoint that goes on as far as its report has it goes on, or a cancel ended it
pub told_none : (x : Endpoint) → told_end x ≡ None → (x.ended ≡ None) ⊎ (is_told x ≡ true)
told_none x on = by (is_told x) refl
  where
    by : (b : Bool) → is_told x ≡ b → (x.ended ≡ None) ⊎ (is_told x ≡ true)
    by true is = inr is
    by false is = inl (sym (end_by x false is) ∙ on)

pub untold_none : (x : Endpoint) → is_told x ≡ false → told_end x ≡ None → x.ended ≡ None
untold_none x is on = sym (untold_same x is) ∙ on

pub record IsByCancel (x : Endpoint) : Type 0 where
  pub cancel : ended_by_cancel x.ended ≡ true
  pub cancelled : x.cancelled ≡ true
  pub kept : x.gone ≡ false

pub by_cancel : (x : Endpoint) → is_told x ≡ true → IsByCancel x
by_cancel x on =
    let b = and_parts (ended_by_cancel x.ended && x.cancelled) (not x.gone) on in
    let c = and_parts (ended_by_cancel x.ended) x.cancelled b.0 in
    record { cancel = c.0; cancelled = c.1; kept = not_true x.gone b.1 }
  where
    not_true : (g : Bool) → not g ≡ true → g ≡ false
    not_true true is = absurd (false≢true is)
    not_true false is = refl

not_told : (x : Endpoint) → (is_told x ≡ true → ⊥) → is_told x ≡ false
not_told x never = by (is_told x) refl
  where
    by : (b : Bool) → is_told x ≡ b → is_told x ≡ false
    by true is = absurd (never is)
    by false is = is

pub told_gone : (x : Endpoint) → x.gone ≡ true → told_end x ≡ x.ended
told_gone x gone = untold_same x (not_told x (λ on. absurd (false≢true (sym (by_cancel x on).kept ∙ gone))))

pub told_uncancelled : (x : Endpoint) → x.cancelled ≡ false → told_end x ≡ x.ended
told_uncancelled x none = untold_same x (not_told x (λ on. absurd (false≢true (sym none ∙ (by_cancel x on).cancelled))))

pub told_other : (x : Endpoint) → ended_by_cancel x.ended ≡ false → told_end x ≡ x.ended
told_other x none = untold_same x (not_told x (λ on. absurd (false≢true (sym none ∙ (by_cancel x on).cancel))))

-- where they have ended alike
pub told_alike : (x y : Endpoint) → y.ended ≡ x.ended → y.cancelled ≡ x.cancelled → y.gone ≡ x.gone → told_end y ≡ told_end x
told_alike x y ended cancelled gone =
    ap (λ (o : Option EndCause). if (ended_by_cancel o && y.cancelled && not y.gone) then None else o) ended
    ∙ (ap (λ (b : Bool). if (ended_by_cancel x.ended && b && not y.gone) then None else x.ended) cancelled
    ∙ ap (λ (b : Bool). if (ended_by_cancel x.ended && x.cancelled && not b) then None else x.ended) gone)

-- ---- whether it may be met

pub linked_met : (d : DriverContent) (e : ℕ) (x : Endpoint) → x.linked ≡ true → may_meet d e x ≡ true
linked_met d e x on = or_left x.linked (is_one_of e d.waiting || is_one_of e d.rung) on

pub waiting_met : (d : DriverContent) (e : ℕ) (x : Endpoint) → is_one_of e d.waiting ≡ true → may_meet d e x ≡ true
waiting_met d e x on = or_right x.linked (is_one_of e d.waiting || is_one_of e d.rung) (or_left (is_one_of e d.waiting) (is_one_of e d.rung) on)

pub rung_met : (d : DriverContent) (e : ℕ) (x : Endpoint) → is_one_of e d.rung ≡ true → may_meet d e x ≡ true
rung_met d e x on = or_right x.linked (is_one_of e d.waiting || is_one_of e d.rung) (or_right (is_one_of e d.waiting) (is_one_of e d.rung) on)

pub data IsNear (d : DriverContent) (e : ℕ) (x : Endpoint) : Type 0 where
  in_ring : x.linked ≡ true → IsNear d e x
  has_left : is_one_of e d.waiting ≡ true → IsNear d e x
  is_rung : is_one_of e d.rung ≡ true → IsNear d e x

pub met_where : (d : DriverContent) (e : ℕ) (x : Endpoint) → may_meet d e x ≡ true → IsNear d e x
met_where d e x on =
    ⊎_elim (λ (l : x.linked ≡ true). in_ring l)
    (λ (r : (is_one_of e d.waiting || is_one_of e d.rung) ≡ true).
    ⊎_elim (λ (w : is_one_of e d.waiting ≡ true). has_left w) (λ (g : is_one_of e d.rung ≡ true). is_rung g) (or_cases (is_one_of e d.waiting) (is_one_of e d.rung) r))
    (or_cases x.linked (is_one_of e d.waiting || is_one_of e d.rung) on)

pub where_met : (d : DriverContent) (e : ℕ) (x : Endpoint) → IsNear d e x → may_meet d e x ≡ true
where_met d e x (in_ring on) = linked_met d e x on
where_met d e x (has_left on) = waiting_met d e x on
where_met d e x (is_rung on) = rung_met d e x on

pub record IsPast (d : DriverContent) (e : ℕ) (x : Endpoint) : Type 0 where
  pub unlinked : x.linked ≡ false
  pub waits : is_one_of e d.waiting ≡ false
  pub rung : is_one_of e d.rung ≡ false

pub unmet_past : (d : DriverContent) (e : ℕ) (x : Endpoint) → may_meet d e x ≡ false → IsPast d e x
unmet_past d e x off =
    let b = or_parts x.linked (is_one_of e d.waiting || is_one_of e d.rung) off in
    let c = or_parts (is_one_of e d.waiting) (is_one_of e d.rung) b.1 in
    record { unlinked = b.0; waits = c.0; rung = c.1 }

pub past_unmet : (d : DriverContent) (e : ℕ) (x : Endpoint) → IsPast d e x → may_meet d e x ≡ false
past_unmet d e x p = or_from x.linked (is_one_of e d.waiting || is_one_of e d.rung) p.unlinked (or_from (is_one_of e d.waiting) (is_one_of e d.rung) p.waits p.rung)

pub met_alike : (d f : DriverContent) (e : ℕ) (x y : Endpoint) → y.linked ≡ x.linked → f.waiting ≡ d.waiting → f.rung ≡ d.rung → may_meet f e y ≡ may_meet d e x
met_alike d f e x y linked waiting rung =
    ap (λ (b : Bool). b || (is_one_of e f.waiting || is_one_of e f.rung)) linked
    ∙ (ap (λ (w : List ℕ). x.linked || (is_one_of e w || is_one_of e f.rung)) waiting
    ∙ ap (λ (r : List ℕ). x.linked || (is_one_of e d.waiting || is_one_of e r)) rung)
