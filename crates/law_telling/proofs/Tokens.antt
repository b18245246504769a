-- What is found of a transfer tells why its line is written.
use Rattle.std.proofs.Common.{◌≡◌, ◌≢◌, ℕ, Bool, true, false, cond, not, ◌&&◌, ap, sym, subst, ◌∙◌, inl, inr, refl, arith}
use Rattle.std.specs.Prelude.{nat_eq, nat_le, ◌⊎◌, ◌||◌}
use Rattle.std.proofs.lemmas.Bool.{false≢true}
use Rattle.std.proofs.lemmas.Bool.Decides.{nat_tests}
use Rattle.law_telling.proofs.Common.{none_ended}
use Rattle.usb_base.specs.declared.endpoints.EndCause.TheVariants as causes
use Rattle.usb_base.specs.declared.reports.What.{What}
use Rattle.usb_base.specs.declared.reports.What.TheVariants as lines
use Rattle.qh_qtd.specs.declared.token.Token.{Token}
use Rattle.drv_periodic_table.specs.Descriptors.{is_served, errors_in}
use Rattle.drv_periodic_table.specs.Periodic.{note_at as descriptor_at}
use Rattle.drv_table.specs.declared.content.QtdNote.{QtdNote}
use Rattle.drv_table.specs.declared.content.Sort.{Sort}
use Rattle.drv_table.specs.declared.content.Sort.TheVariants as sorts
use Rattle.drv_table.specs.declared.content.Transfer.{Transfer}
use Rattle.drv_table.specs.declared.rows.Found.TheVariants as founds
use Rattle.drv_table.specs.Harvests.{note_at, token_in, moved_of, halt_of, done_of, ends_by, is_get as table_get, found_in}
use Rattle.drv_table.specs.Harvesting.{found_of}
use Rattle.drv_table.specs.Parts.{Parts}
use Rattle.claims_driver.specs.Owners.{is_descriptor}
use Rattle.claims_answers.specs.Telling.{token_of, is_get, HasReason, done, missed, babbled, failed, stalled as halted_by_stall, less}

-- ---- what a token tells

pub record IsEnded (sort : Sort) (last : Bool) (note : QtdNote) (t : Token) (n : ℕ) (what : What) : Type 0 where
  pub reason : HasReason (table_get sort) last t what
  pub count : n ≡ less note.told t.total

ended_is : (n k : ℕ) (a b : What) → founds.Ended n a ≡ founds.Ended k b → (n ≡ k) × (a ≡ b)
ended_is n k a b is = (cc, cc)

not_moved : (n k : ℕ) (what : What) → founds.Moved n ≡ founds.Ended k what → ⊥
not_moved n k what is = cc

not_active : (k : ℕ) (what : What) → founds.Active ≡ founds.Ended k what → ⊥
not_active k what is = cc

not_served : (e k : ℕ) (what : What) → founds.Served e ≡ founds.Ended k what → ⊥
not_served e k what is = cc

halts : (get last : Bool) (t : Token) (m b : Bool) → t.active ≡ false → t.halted ≡ true → t.missed ≡ m → t.babble ≡ b → (c : Bool)
    → nat_eq t.cerr 0 ≡ c
    → HasReason get last t (cond m lines.Miss
    (cond b (lines.Halt causes.Babble) (cond c (lines.Halt causes.Error) (lines.Halt causes.Stall))))
halts get last t true b off on miss babble c cerr = missed off on miss
halts get last t false true off on miss babble c cerr = babbled off on miss babble
halts get last t false false off on miss babble true cerr = failed off on miss babble (grind (arith, nat_tests))
halts get last t false false off on miss babble false cerr =
    halted_by_stall off on miss babble (λ zero_is. false≢true (sym cerr ∙ ap (λ k. nat_eq k 0) zero_is))

ends : (sort : Sort) (last : Bool) (t : Token) → ends_by sort last t.total ≡ true
    → (last ≡ true) ⊎ ((table_get sort ≡ true) × (t.total ≢ 0))
ends sort last t is = by last (table_get sort) (nat_eq t.total 0) refl refl refl is
  where
    by : (a b c : Bool) → last ≡ a → table_get sort ≡ b → nat_eq t.total 0 ≡ c → a || (b && not c) ≡ true
        → (last ≡ true) ⊎ ((table_get sort ≡ true) × (t.total ≢ 0))
    by true b c l g e w = inl l
    by false true false l g e w = inr (g, λ zero_is. false≢true (sym e ∙ ap (λ k. nat_eq k 0) zero_is))
    by false true true l g e w = absurd (false≢true w)
    by false false c l g e w = absurd (false≢true w)

dones : (sort : Sort) (last : Bool) (note : QtdNote) (t : Token) (n k : ℕ) (what : What) (b : Bool) → t.active ≡ false → t.halted ≡ false
    → ends_by sort last t.total ≡ b → n ≡ less note.told t.total
    → done_of b n ≡ founds.Ended k what → IsEnded sort last note t k what
dones sort last note t n k what true off up end count is =
    let e = ended_is n k lines.Done what is in
    record { reason = subst (HasReason (table_get sort) last t) e.1 (done off up (ends sort last t end)); count = sym e.0 ∙ count }
dones sort last note t n k what false off up end count is = absurd (not_moved n k what is)

token_ends : (sort : Sort) (last : Bool) (note : QtdNote) (t : Token) (k : ℕ) (what : What)
    → found_in sort last note t ≡ founds.Ended k what → IsEnded sort last note t k what
token_ends sort last note t k what is = by t.active t.halted refl refl is
  where
    by : (a h : Bool) → t.active ≡ a → t.halted ≡ h
        → cond a founds.Active (cond h (founds.Ended (moved_of note.told t.total) (halt_of t))
        (done_of (ends_by sort last t.total) (moved_of note.told t.total))) ≡ founds.Ended k what → IsEnded sort last note t k what
    by true h off up w = absurd (not_active k what w)
    by false true off up w =
        let e = ended_is (moved_of note.told t.total) k (halt_of t) what w in
        record {
          reason = subst (HasReason (table_get sort) last t) e.1
              (halts (table_get sort) last t t.missed t.babble off up refl refl (nat_eq t.cerr 0) refl);
          count = sym e.0;
        }
    by false false off up w = dones sort last note t (moved_of note.told t.total) k what (ends_by sort last t.total) off up refl refl w

same_get : (sort : Sort) → table_get sort ≡ is_get sort
same_get sorts.Get = refl
same_get sorts.Put = refl
same_get sorts.Request = refl
same_get sorts.Descriptor = refl

-- a transfer with qTDs
pub record IsEndedIn (p : Parts) (y : Transfer) (n : ℕ) (what : What) : Type 0 where
  pub qtds : is_descriptor y.sort ≡ false
  pub reason : HasReason (is_get y.sort) (nat_le y.left 1) (token_of p.memory y.place) what
  pub count : n ≡ less (note_at p.driver.notes y.place).told (token_of p.memory y.place).total

queue_ends : (p : Parts) (y : Transfer) (n : ℕ) (what : What) → is_descriptor y.sort ≡ false
    → found_in y.sort (nat_le y.left 1) (note_at p.driver.notes y.place) (token_in p.memory y.place) ≡ founds.Ended n what → IsEndedIn p y n
    what
queue_ends p y n what queue is =
    let e = token_ends y.sort (nat_le y.left 1) (note_at p.driver.notes y.place) (token_in p.memory y.place) n what is in
    record {
      qtds = queue;
      reason = subst (λ (g : Bool). HasReason g (nat_le y.left 1) (token_of p.memory y.place) what) (same_get y.sort) e.reason;
      count = e.count;
    }

pub found_ends : (p : Parts) (y : Transfer) (n : ℕ) (what : What) (sort : Sort) → y.sort ≡ sort
    → found_of p.driver p.memory y sort ≡ founds.Ended n what → IsEndedIn p y n what
found_ends p y n what sorts.Descriptor s is = absurd (none_ended _ _ n what is)
found_ends p y n what sorts.Get s is =
    queue_ends p y n what (ap is_descriptor s)
    (ap (λ (k : Sort). found_in k (nat_le y.left 1) (note_at p.driver.notes y.place) (token_in p.memory y.place)) s ∙ is)
found_ends p y n what sorts.Put s is =
    queue_ends p y n what (ap is_descriptor s)
    (ap (λ (k : Sort). found_in k (nat_le y.left 1) (note_at p.driver.notes y.place) (token_in p.memory y.place)) s ∙ is)
found_ends p y n what sorts.Request s is =
    queue_ends p y n what (ap is_descriptor s)
    (ap (λ (k : Sort). found_in k (nat_le y.left 1) (note_at p.driver.notes y.place) (token_in p.memory y.place)) s ∙ is)

-- .. and an isochronous descriptor
pub record IsServedIn (p : Parts) (y : Transfer) (errors : ℕ) : Type 0 where
  pub descriptor : is_descriptor y.sort ≡ true
  pub served : is_served (descriptor_at p.driver.periodic.notes y.first) p.memory y.first ≡ true
  pub count : errors ≡ errors_in (descriptor_at p.driver.periodic.notes y.first) p.memory y.first

served_same : (a b : ℕ) → founds.Served a ≡ founds.Served b → b ≡ a
served_same a b is = cc

active_served : (b : ℕ) → founds.Active ≡ founds.Served b → ⊥
active_served b is = cc

ended_served : (k : ℕ) (what : What) (b : ℕ) → founds.Ended k what ≡ founds.Served b → ⊥
ended_served k what b is = cc

moved_served : (k b : ℕ) → founds.Moved k ≡ founds.Served b → ⊥
moved_served k b is = cc

done_served : (c : Bool) (n b : ℕ) → done_of c n ≡ founds.Served b → ⊥
done_served true n b is = ended_served n lines.Done b is
done_served false n b is = moved_served n b is

token_served : (sort : Sort) (last : Bool) (note : QtdNote) (t : Token) (b : ℕ) (a h : Bool)
    → cond a founds.Active (cond h (founds.Ended (moved_of note.told t.total) (halt_of t))
    (done_of (ends_by sort last t.total) (moved_of note.told t.total))) ≡ founds.Served b → ⊥
token_served sort last note t b true h is = active_served b is
token_served sort last note t b false true is = ended_served (moved_of note.told t.total) (halt_of t) b is
token_served sort last note t b false false is = done_served (ends_by sort last t.total) (moved_of note.told t.total) b is

pub found_served : (p : Parts) (y : Transfer) (errors : ℕ) (sort : Sort) → y.sort ≡ sort
    → found_of p.driver p.memory y sort ≡ founds.Served errors → IsServedIn p y errors
found_served p y errors sorts.Descriptor s is = by (is_served (descriptor_at p.driver.periodic.notes y.first) p.memory y.first) refl is
  where
    by : (b : Bool) → is_served (descriptor_at p.driver.periodic.notes y.first) p.memory y.first ≡ b
        → cond b (founds.Served (errors_in (descriptor_at p.driver.periodic.notes y.first) p.memory y.first)) founds.Active ≡ founds.Served
        errors → IsServedIn p y errors
    by true on w = record { descriptor = ap is_descriptor s; served = on; count = served_same _ errors w }
    by false off w = absurd (active_served errors w)
found_served p y errors sorts.Get s is = absurd
    (token_served sorts.Get (nat_le y.left 1) (note_at p.driver.notes y.place) (token_in p.memory y.place) errors
    (token_in p.memory y.place).active (token_in p.memory y.place).halted is)
found_served p y errors sorts.Put s is = absurd
    (token_served sorts.Put (nat_le y.left 1) (note_at p.driver.notes y.place) (token_in p.memory y.place) errors
    (token_in p.memory y.place).active (token_in p.memory y.place).halted is)
found_served p y errors sorts.Request s is = absurd
    (token_served sorts.Request (nat_le y.left 1) (note_at p.driver.notes y.place) (token_in p.memory y.place) errors
    (token_in p.memory y.place).active (token_in p.memory y.place).halted is)
