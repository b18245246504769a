-- A harvest that ends a transfer: what its row leaves of the driver's content.
use Rattle.std.proofs.Common.{◌≡◌, ◌≢◌, ℕ, zero, suc, ◌+◌, ◌-◌, ◌<◌, ◌≤◌, Bool, true, false, not, List, [], ◌∷◌, ◌++◌, length, slice_get, slice_set, Option, Some, None, if◌then◌else◌, ap, refl, sym, subst, ◌∙◌, ◌⊎◌, inl, inr, arith}
use Rattle.std.specs.Prelude.{◌==◌}
use Rattle.std.proofs.lemmas.Bool.{false≢true, eq-eqb}
use Rattle.std.proofs.lemmas.Option.{same_Some}
use Rattle.law_common.proofs.Booleans.{and_none}
use Rattle.law_driver.proofs.Common.{either_way}
use Rattle.law_reports.proofs.Common.{told_by}
use Rattle.law_common.proofs.Lists.{set_here}
use Rattle.usb_base.specs.declared.endpoints.EndCause.{EndCause}
use Rattle.usb_base.specs.declared.endpoints.EndCause.TheVariants as causes
use Rattle.usb_base.specs.declared.endpoints.EpName.{EpName}
use Rattle.usb_base.specs.declared.reports.Report.{Report}
use Rattle.usb_base.specs.declared.reports.What.{What}
use Rattle.usb_base.specs.declared.reports.What.TheVariants as lines
use Rattle.word_mem.specs.Memory.{Mem}
use Rattle.bus_wire.specs.Fates.{is_same_name}
use Rattle.drv_table.specs.declared.content.Endpoint.{Endpoint}
use Rattle.drv_table.specs.declared.content.Mend.{Mend}
use Rattle.drv_table.specs.declared.content.Transfer.{Transfer}
use Rattle.drv_table.specs.DriverContent.{DriverContent, waits_for, next_after}
use Rattle.drv_table.specs.Harvests.{noted, end_of, is_stall}
use Rattle.drv_table.specs.Harvesting.{behind_one, behind, mends_of, told_with, after_end}
use Rattle.drv_table.specs.Releases.{ended_by_cancel}
use Rattle.law_driver.specs.endpoint_lives.Lives.{told_end}
use Rattle.law_driver.proofs.lemmas.chained_transfers.Stalled.{IsToldOf, told_set, told_both, behind_tells}
use Rattle.claims_report.specs.Reports.{is_refusal}
use Rattle.law_queues.specs.told_endpoints.Telling.{lines_in}
use Rattle.law_queues.proofs.lemmas.told_endpoints.Lines.{line_of_other}
use Rattle.claims_world.specs.Requests.{numbers_from}

-- ---- lines of other endpoints, and stores that are owed

other_line : (name other : EpName) (reports : List Report) (line : Report) → line.name ≡ other → is_same_name other name ≡ false → lines_in name (reports ++ line ∷ []) ≡ lines_in name reports
other_line name other reports line own differs =
    line_of_other name reports line (and_none (is_same_name line.name name) (not (is_refusal line.what)) (ap (λ (n : EpName). is_same_name n name) own ∙ differs))

-- the lines of other endpoints, and what is owed
pub record IsAside (name : EpName) (d c : DriverContent) : Type 0 where
  pub lines : (other : EpName) → is_same_name name other ≡ false → lines_in other c.reports ≡ lines_in other d.reports
  pub mends : c.mends ≡ d.mends

one_aside : (d f : DriverContent) (e : ℕ) (name : EpName) (k : ℕ) (o : Option Transfer) → IsAside name d f → IsAside name d (behind_one f e name k o)
one_aside d f e name k None old = old
one_aside d f e name k (Some y) old =
    either_way (IsAside name d) (waits_for e y) _ f
    (record {
      lines = λ other differs. other_line other name f.reports (record { name = name; what = lines.Halt causes.Stall; from = length f.store; len = length {A = ℕ} [] }) refl differs ∙ old.lines other differs;
      mends = old.mends;
    }) old

all_aside : (d f : DriverContent) (e : ℕ) (name : EpName) (k n : ℕ) → IsAside name d f → IsAside name d (behind f e name k n)
unfolding behind
all_aside d f e name k zero old = old
all_aside d f e name k (suc n) old = all_aside d (behind_one f e name k (slice_get f.transfers k)) e name (suc k) n (one_aside d f e name k (slice_get f.transfers k) old)

-- ---- the row

-- endpoint e, then
abbrev pub end_with : List Transfer → ℕ → ℕ → Endpoint → Bool → Option EndCause → Endpoint
end_with ts e t x stall (Some cause) = record x { ended = Some cause }
end_with ts e t x true None = record x { next = None }
end_with ts e t x false None = record x { next = next_after ts e t }

abbrev pub stall_owes : Bool → Option EndCause → Endpoint → List Mend
stall_owes stall (Some cause) x = []
stall_owes true None x = mends_of x
stall_owes false None x = []

pub record TransferEnds (d : DriverContent) (c : DriverContent) (e t n : ℕ) (x : Endpoint) (y : Transfer) (what : What) : Type 0 where
  pub endpoints : c.endpoints ≡ slice_set d.endpoints e (end_with (slice_set d.transfers t (record y { reported = true })) e t x (is_stall what) (end_of x.desc.kind what))
  pub transfers : (k : ℕ) (z : Transfer) → slice_get c.transfers k ≡ Some z → IsToldOf d.transfers k z
  pub told : (z : Transfer) → slice_get c.transfers t ≡ Some z → z.reported ≡ true
  pub notes : c.notes ≡ noted d.notes y.place n
  pub command : c.command ≡ d.command
  pub waiting : c.waiting ≡ d.waiting
  pub rung : c.rung ≡ d.rung
  pub mends : c.mends ≡ d.mends ++ stall_owes (is_stall what) (end_of x.desc.kind what) x
  pub lines : (other : EpName) → is_same_name x.desc.name other ≡ false → lines_in other c.reports ≡ lines_in other d.reports
  pub one : is_stall what ≡ false → c.transfers ≡ slice_set d.transfers t (record y { reported = true })

append_none : (ms : List Mend) → ms ≡ ms ++ []
append_none [] = refl
append_none (m ∷ ms) = ap (λ (l : List Mend). m ∷ l) (append_none ms)

module _ (d : DriverContent) (m : Mem) (e t n : ℕ) (x : Endpoint) (y : Transfer) (what : What) (there : slice_get d.transfers t ≡ Some y) where
  abbrev now : DriverContent
  now = told_with d m t y what x.desc.name (noted d.notes y.place n)

  one_told : (k : ℕ) (z : Transfer) → slice_get (slice_set d.transfers t (record y { reported = true })) k ≡ Some z → IsToldOf d.transfers k z
  one_told k z at = told_set d.transfers t y there k z at

  is_told : (z : Transfer) → slice_get (slice_set d.transfers t (record y { reported = true })) t ≡ Some z → z.reported ≡ true
  is_told z at = ap (λ (r : Transfer). r.reported) (sym (same_Some _ z (sym (set_here d.transfers t y (record y { reported = true }) there) ∙ at)))

  one_line : (other : EpName) → is_same_name x.desc.name other ≡ false → lines_in other now.reports ≡ lines_in other d.reports
  one_line other differs = other_line other x.desc.name d.reports (record { name = x.desc.name; what = what; from = length d.store; len = _ }) refl differs

  abbrev Left : Bool → Option EndCause → DriverContent → Type 0
  Left stall o c =
      (c.endpoints ≡ slice_set d.endpoints e (end_with (slice_set d.transfers t (record y { reported = true })) e t x stall o))
      × ((k : ℕ) (z : Transfer) → slice_get c.transfers k ≡ Some z → IsToldOf d.transfers k z)
      × ((z : Transfer) → slice_get c.transfers t ≡ Some z → z.reported ≡ true)
      × (c.notes ≡ noted d.notes y.place n)
      × (c.command ≡ d.command)
      × (c.waiting ≡ d.waiting)
      × (c.rung ≡ d.rung)
      × (c.mends ≡ d.mends ++ stall_owes stall o x)
      × ((other : EpName) → is_same_name x.desc.name other ≡ false → lines_in other c.reports ≡ lines_in other d.reports)
      × (stall ≡ false → c.transfers ≡ slice_set d.transfers t (record y { reported = true }))

  left_by : (stall : Bool) (o : Option EndCause) → Left stall o (after_end (told_with d m t y what x.desc.name (noted d.notes y.place n)) e t x stall o)
  left_by stall (Some cause) = (refl, one_told, is_told, refl, refl, refl, refl, append_none d.mends, one_line, λ no. refl)
  left_by false None = (refl, one_told, is_told, refl, refl, refl, refl, append_none d.mends, one_line, λ no. refl)
  left_by true None =
      let f : DriverContent = record now { harvested = d.harvested ++ t ∷ []; endpoints = slice_set d.endpoints e (record x { next = None }); mends = d.mends ++ mends_of x } in
      let k : ℕ = length now.transfers - suc t in
      let b = behind_tells f e x.desc.name (suc t) k in
      let a = all_aside f f e x.desc.name (suc t) k (record { lines = λ other differs. refl; mends = refl }) in (
        b.endpoints,
        (λ i z at. let w = b.transfers i z at in told_both d.transfers f.transfers i z w (one_told i w.one w.here)),
        (λ z at. let w = b.transfers t z at in w.told (is_told w.one w.here)),
        b.notes,
        b.command,
        b.waiting,
        b.rung,
        a.mends,
        (λ other differs. a.lines other differs ∙ one_line other differs),
        (λ no. absurd (false≢true (sym no))),
      )

  pub ends_so : TransferEnds d (after_end (told_with d m t y what x.desc.name (noted d.notes y.place n)) e t x (is_stall what) (end_of x.desc.kind what)) e t n x y what
  ends_so =
      let l = left_by (is_stall what) (end_of x.desc.kind what) in
      record { endpoints = l.0; transfers = l.1; told = l.2; notes = l.3; command = l.4; waiting = l.5; rung = l.6; mends = l.7; lines = l.8; one = l.9 }

-- ---- the endpoint stays as it is but for what was told of it

pub record IsSameBut (x z : Endpoint) : Type 0 where
  pub desc : z.desc ≡ x.desc
  pub queue : z.queue ≡ x.queue
  pub dummy : z.dummy ≡ x.dummy
  pub gone : z.gone ≡ x.gone
  pub linked : z.linked ≡ x.linked
  pub cancelled : z.cancelled ≡ x.cancelled

pub end_same : (ts : List Transfer) (e t : ℕ) (x : Endpoint) (stall : Bool) (o : Option EndCause) → IsSameBut x (end_with ts e t x stall o)
end_same ts e t x stall (Some cause) = record { desc = refl; queue = refl; dummy = refl; gone = refl; linked = refl; cancelled = refl }
end_same ts e t x true None = record { desc = refl; queue = refl; dummy = refl; gone = refl; linked = refl; cancelled = refl }
end_same ts e t x false None = record { desc = refl; queue = refl; dummy = refl; gone = refl; linked = refl; cancelled = refl }

pub record WasEndpoint (d : DriverContent) (e : ℕ) (now : Endpoint) (i : ℕ) (z : Endpoint) : Type 0 where
  pub was : Endpoint
  pub here : slice_get d.endpoints i ≡ Some was
  pub same : IsSameBut was z
  pub beside : i ≢ e → was ≡ z
  pub its : i ≡ e → z ≡ now

-- the stores that are owed are of the endpoint
pub owed_at : (stall : Bool) (o : Option EndCause) (x : Endpoint) (i : ℕ) (p : Mend) → slice_get (stall_owes stall o x) i ≡ Some p → p.queue ≡ x.queue
owed_at stall (Some cause) x i p here = absurd cc
owed_at true None x zero p here = ap (λ (r : Mend). r.queue) (sym (same_Some _ p here))
owed_at true None x (suc zero) p here = ap (λ (r : Mend). r.queue) (sym (same_Some _ p here))
owed_at true None x (suc (suc zero)) p here = ap (λ (r : Mend). r.queue) (sym (same_Some _ p here))
owed_at true None x (suc (suc (suc i))) p here = absurd cc
owed_at false None x i p here = absurd cc

pub appended_at : (ms more : List Mend) (j : ℕ) (p : Mend) → slice_get (ms ++ more) j ≡ Some p → (slice_get ms j ≡ Some p) ⊎ ((i : ℕ) × (slice_get more i ≡ Some p))
appended_at [] more j p here = inr (j, here)
appended_at (r ∷ ms) more zero p here = inl here
appended_at (r ∷ ms) more (suc j) p here = appended_at ms more j p here

-- ---- what is told of it

none_some : (z : Endpoint) (c : EndCause) → z.cancelled ≡ false → z.ended ≡ Some c → told_end z ≡ None → ⊥
none_some z c on ends none = let same : ◌≡◌ {A = Option EndCause} None (Some c) = sym none ∙ told_by (ended_by_cancel z.ended) z.cancelled (not z.gone) z.ended on ∙ ends in cc

pub end_told : (ts : List Transfer) (e t : ℕ) (x : Endpoint) (stall : Bool) (o : Option EndCause) → x.ended ≡ None → told_end (end_with ts e t x stall o) ≡ told_end (record x { ended = o })
end_told ts e t x stall (Some cause) goes = refl
end_told ts e t x true None goes = ap (λ (o : Option EndCause). told_end (record x { ended = o })) goes
end_told ts e t x false None goes = ap (λ (o : Option EndCause). told_end (record x { ended = o })) goes

-- one that halted and goes on has no next transfer
pub halted_next : (ts : List Transfer) (e t : ℕ) (x : Endpoint) (cause : EndCause) → x.cancelled ≡ false → told_end (end_with ts e t x (is_stall (lines.Halt cause)) (end_of x.desc.kind (lines.Halt cause))) ≡ None
    → (end_with ts e t x (is_stall (lines.Halt cause)) (end_of x.desc.kind (lines.Halt cause))).next ≡ None
halted_next ts e t x causes.Stall on none = by (end_of x.desc.kind (lines.Halt causes.Stall)) none
  where
    by : (o : Option EndCause) → told_end (end_with ts e t x true o) ≡ None → (end_with ts e t x true o).next ≡ None
    by (Some c) none = absurd (none_some (record x { ended = Some c }) c on refl none)
    by None none = refl
halted_next ts e t x causes.Error on none = absurd (none_some (record x { ended = Some causes.Error }) causes.Error on refl none)
halted_next ts e t x causes.Babble on none = absurd (none_some (record x { ended = Some causes.Babble }) causes.Babble on refl none)
halted_next ts e t x causes.Miss on none = absurd (none_some (record x { ended = Some causes.Miss }) causes.Miss on refl none)
halted_next ts e t x causes.Cancel on none = absurd (none_some (record x { ended = Some causes.Cancel }) causes.Cancel on refl none)

-- ---- transfers of one endpoint, in their order

abbrev pub IsHeadWithin : List ℕ → ℕ → Type 0
IsHeadWithin [] m = ⊥
IsHeadWithin (b ∷ bs) m = b ≤ m

cons_heads : (a b : ℕ) (xs ys : List ℕ) → a ∷ xs ≡ b ∷ ys → (a ≡ b) × (xs ≡ ys)
cons_heads a b xs ys is = (ap (λ (l : List ℕ). head_or l) is, ap (λ (l : List ℕ). tail_in l) is)
  where
    head_or : List ℕ → ℕ
    head_or [] = a
    head_or (x ∷ l) = x

    tail_in : List ℕ → List ℕ
    tail_in [] = []
    tail_in (x ∷ l) = l

none_cons : (xs rest : List ℕ) (a : ℕ) → [] ≡ xs ++ a ∷ rest → ⊥
none_cons [] rest a is = cc
none_cons (x ∷ xs) rest a is = cc

-- the first of them isn't later
least_head : (e n i : ℕ) (ts : List Transfer) (rest : List ℕ) (z : Transfer) → numbers_from e n ts ≡ rest → slice_get ts i ≡ Some z → z.endpoint ≡ e → IsHeadWithin rest (n + i)
least_head e n i [] rest z is here of = absurd (cc)
least_head e n zero (y ∷ ys) rest z is here of =
    subst (λ (l : List ℕ). IsHeadWithin l (n + 0)) is
    (subst (λ (b : Bool). IsHeadWithin (if b then n ∷ numbers_from e (suc n) ys else numbers_from e (suc n) ys) (n + 0)) (sym (eq-eqb y.endpoint e (ap (λ (r : Transfer). r.endpoint) (same_Some y z here) ∙ of))) (omega arith))
least_head e n (suc i) (y ∷ ys) rest z is here of = by (λ at. least_head e (suc n) i ys rest z at here of) (y.endpoint == e) is
  where
    by : (numbers_from e (suc n) ys ≡ rest → IsHeadWithin rest (suc n + i)) → (b : Bool) → (if b then n ∷ numbers_from e (suc n) ys else numbers_from e (suc n) ys) ≡ rest → IsHeadWithin rest (n + suc i)
    by go true at = subst (λ (l : List ℕ). IsHeadWithin l (n + suc i)) at (omega arith)
    by go false at = let same : suc n + i ≡ n + suc i = omega arith in subst (IsHeadWithin rest) same (go at)

-- each of them stands at or behind where the list begins
begins_at : (e n a : ℕ) (ts : List Transfer) (xs rest : List ℕ) → numbers_from e n ts ≡ xs ++ a ∷ rest → n ≤ a
begins_at e n a [] xs rest is = absurd (none_cons xs rest a is)
begins_at e n a (y ∷ ys) xs rest is = by (λ xs at. begins_at e (suc n) a ys xs rest at) (y.endpoint == e) xs is
  where
    by : ((xs : List ℕ) → numbers_from e (suc n) ys ≡ xs ++ a ∷ rest → suc n ≤ a) → (b : Bool) (xs : List ℕ) → (if b then n ∷ numbers_from e (suc n) ys else numbers_from e (suc n) ys) ≡ xs ++ a ∷ rest → n ≤ a
    by go true [] at = let same = (cons_heads n a (numbers_from e (suc n) ys) rest at).0 in omega (arith, same)
    by go true (x ∷ xs) at = let later = go xs (cons_heads n x (numbers_from e (suc n) ys) (xs ++ a ∷ rest) at).1 in omega (arith, later)
    by go false xs at = let later = go xs at in omega (arith, later)

-- one behind a isn't before the next one
pub next_within : (e n i a : ℕ) (ts : List Transfer) (xs rest : List ℕ) (z : Transfer) → numbers_from e n ts ≡ xs ++ a ∷ rest → slice_get ts i ≡ Some z → z.endpoint ≡ e → a < n + i → IsHeadWithin rest (n + i)
next_within e n i a [] xs rest z is here of later = absurd (none_cons xs rest a is)
next_within e n i a (y ∷ ys) xs rest z is here of later = by (λ xs i at here later. next_within e (suc n) i a ys xs rest z at here of later) (y.endpoint == e) refl xs i is here later
  where
    by : ((xs : List ℕ) (i : ℕ) → numbers_from e (suc n) ys ≡ xs ++ a ∷ rest → slice_get ys i ≡ Some z → a < suc n + i → IsHeadWithin rest (suc n + i)) → (b : Bool) → (y.endpoint == e) ≡ b → (xs : List ℕ) (i : ℕ) → (if b then n ∷ numbers_from e (suc n) ys else numbers_from e (suc n) ys) ≡ xs ++ a ∷ rest → slice_get (y ∷ ys) i ≡ Some z → a < n + i → IsHeadWithin rest (n + i)
    by go true own [] zero at here later = let same = (cons_heads n a (numbers_from e (suc n) ys) rest at).0 in absurd (omega (arith, same, later))
    by go true own [] (suc i) at here later =
        let sum : suc n + i ≡ n + suc i = omega arith in
        subst (IsHeadWithin rest) sum (least_head e (suc n) i ys rest z (cons_heads n a (numbers_from e (suc n) ys) rest at).1 here of)
    by go true own (x ∷ xs) zero at here later =
        let least = begins_at e (suc n) a ys xs rest (cons_heads n x (numbers_from e (suc n) ys) (xs ++ a ∷ rest) at).1 in absurd (omega (arith, least, later))
    by go true own (x ∷ xs) (suc i) at here later =
        let sum : suc n + i ≡ n + suc i = omega arith in
        subst (IsHeadWithin rest) sum (go xs i (cons_heads n x (numbers_from e (suc n) ys) (xs ++ a ∷ rest) at).1 here (omega (arith, later)))
    by go false own xs zero at here later = absurd (false≢true (sym own ∙ eq-eqb y.endpoint e (ap (λ (r : Transfer). r.endpoint) (same_Some y z here) ∙ of)))
    by go false own xs (suc i) at here later =
        let sum : suc n + i ≡ n + suc i = omega arith in
        subst (IsHeadWithin rest) sum (go xs i at here (omega (arith, later)))
