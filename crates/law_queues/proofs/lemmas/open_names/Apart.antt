-- No two endpoints have one name.
use Rattle.std.proofs.Common.{◌≡◌, ℕ, zero, suc, ◌+◌, ◌-◌, Bool, true, cond, List, [], ◌∷◌, ◌++◌, length, take, drop, get_or, slice_get, Option, Some, None, option_map, ap, refl, sym, subst, ◌∙◌, ⊎_elim}
use Rattle.std.specs.List.{position, position_from}
use Rattle.std.proofs.lemmas.Option.{same_Some}
use Rattle.std.proofs.lemmas.Iterator.Adapters.{position_from-zero}
use Rattle.law_common.proofs.Lists.{push_which}
use Rattle.law_queues.proofs.Common.{no_endpoint, same_name}
use Rattle.law_common.proofs.Options.{some_not_none, by_test}
use Rattle.usb_base.specs.declared.endpoints.EpDesc.{EpDesc}
use Rattle.word_mem.specs.Memory.{Mem}
use Rattle.drv_table.specs.declared.content.Endpoint.{Endpoint}
use Rattle.drv_table.specs.DriverContent.{DriverContent, is_same_name}
use Rattle.drv_table.specs.Accepting.{Offered, new_runs}
use Rattle.drv_table.specs.Offers.{new_endpoint, note_stages, with_queued, accepted_transfer}
use Rattle.drv_table.specs.Rows.{driver_row, after_driver_row}
use Rattle.law_driver.specs.run_owners.Accepts.{Opens, Transfers}
use Rattle.law_driver.proofs.lemmas.run_owners.Stays.{same_view}
use Rattle.law_driver_ring.proofs.lemmas.walk_members.Descriptions.{desc_of, SameDescs, row_left}
use Rattle.law_queues.specs.open_laws.Opens.{AreNamesApart}
use Rattle.law_queues.specs.open_names.Names.{NamesStayApart, AcceptedNamesAreApart, NewNamesAreApart}

-- ---- where descriptions stay

record HadDesc (xs : List Endpoint) (e : ℕ) (x : Endpoint) : Type 0 where
  endpoint : Endpoint
  here : slice_get xs e ≡ Some endpoint
  same : x.desc ≡ endpoint.desc

desc_by : (xs : List Endpoint) (e : ℕ) (x : Endpoint) (o : Option Endpoint) → slice_get xs e ≡ o → Some x.desc ≡ option_map desc_of o → HadDesc xs e x
desc_by xs e x None here is = absurd cc
desc_by xs e x (Some z) here is = record { endpoint = z; here = here; same = same_Some x.desc z.desc is }

desc_back : (xs ys : List Endpoint) (e : ℕ) (x : Endpoint) → SameDescs xs ys → slice_get ys e ≡ Some x → HadDesc xs e x
desc_back xs ys e x same here = desc_by xs e x (slice_get xs e) refl (sym (ap (option_map desc_of) here) ∙ same e)

apart_by : (d f : DriverContent) → SameDescs d.endpoints f.endpoints → AreNamesApart d → AreNamesApart f
apart_by d f same k e g x y one other addr num way =
    let a : HadDesc d.endpoints e x = desc_back d.endpoints f.endpoints e x same one in
    let b : HadDesc d.endpoints g y = desc_back d.endpoints f.endpoints g y same other in
    k e g a.endpoint b.endpoint a.here b.here (sym (ap (λ (z : EpDesc). z.name.addr) a.same) ∙ addr ∙ ap (λ (z : EpDesc). z.name.addr) b.same)
    (sym (ap (λ (z : EpDesc). z.name.num) a.same) ∙ num ∙ ap (λ (z : EpDesc). z.name.num) b.same)
    (sym (ap (λ (z : EpDesc). z.name.way) a.same) ∙ way ∙ ap (λ (z : EpDesc). z.name.way) b.same)

pub names_stay_apart : NamesStayApart
names_stay_apart p k = apart_by p.driver (after_driver_row (driver_row p) p).driver (row_left (driver_row p) p) k

pub new_names_are_apart : NewNamesAreApart
new_names_are_apart n room e f x y one other addr num way = absurd (no_endpoint e x one)

-- ---- an endpoint that is opened

found_from : (t : Endpoint → Bool) (i : ℕ) (xs : List Endpoint) (j : ℕ) (x : Endpoint) → slice_get xs j ≡ Some x → t x ≡ true → position_from t i xs ≡ None → ⊥
found_from t i [] j x there on none = no_endpoint j x there
found_from t i (z ∷ zs) zero x there on none =
    let same : z ≡ x = same_Some z x there in
    some_not_none i (sym (ap (λ (b : Bool). cond b (Some i) (position_from t (i + 1) zs)) (ap t same ∙ on)) ∙ none)
found_from t i (z ∷ zs) (suc j) x there on none = by_test (t z) i (position_from t (i + 1) zs) (found_from t (i + 1) zs j x there on) none

no_position : (t : Endpoint → Bool) (xs : List Endpoint) (j : ℕ) (x : Endpoint) → slice_get xs j ≡ Some x → t x ≡ true → position t xs ≡ None → ⊥
no_position t xs j x there on none = found_from t 0 xs j x there on (sym (position_from-zero t xs) ∙ none)

module _ (d : DriverContent) (m : Mem) (o : Offered) (why : Opens d m o) (k : AreNamesApart d) where
  never_old : (e : ℕ) (x : Endpoint) → slice_get d.endpoints e ≡ Some x → x.desc.name.addr ≡ why.desc.name.addr → x.desc.name.num ≡ why.desc.name.num → x.desc.name.way ≡ why.desc.name.way → ⊥
  never_old e x there addr num way =
      no_position (λ (z : Endpoint). is_same_name z.desc.name why.desc.name) d.endpoints e x there (same_name x.desc.name why.desc.name addr num way) why.new_name

  with_new : (new : Endpoint) → new.desc ≡ why.desc → (e g : ℕ) (x y : Endpoint) → slice_get (d.endpoints ++ new ∷ []) e ≡ Some x → slice_get (d.endpoints ++ new ∷ []) g ≡ Some y
      → x.desc.name.addr ≡ y.desc.name.addr → x.desc.name.num ≡ y.desc.name.num → x.desc.name.way ≡ y.desc.name.way → e ≡ g
  with_new new is e g x y one other addr num way =
      let addr_is : (z : Endpoint) → z ≡ new → z.desc.name.addr ≡ why.desc.name.addr = λ z same. ap (λ (w : Endpoint). w.desc.name.addr) same ∙ ap (λ (w : EpDesc). w.name.addr) is in
      let num_is : (z : Endpoint) → z ≡ new → z.desc.name.num ≡ why.desc.name.num = λ z same. ap (λ (w : Endpoint). w.desc.name.num) same ∙ ap (λ (w : EpDesc). w.name.num) is in
      let way_is : (z : Endpoint) → z ≡ new → z.desc.name.way ≡ why.desc.name.way = λ z same. ap (λ (w : Endpoint). w.desc.name.way) same ∙ ap (λ (w : EpDesc). w.name.way) is in
      ⊎_elim (λ (was : slice_get d.endpoints e ≡ Some x).
      ⊎_elim (λ (too : slice_get d.endpoints g ≡ Some y). k e g x y was too addr num way)
      (λ (fresh : (g ≡ length d.endpoints) × (y ≡ new)). absurd (never_old e x was (addr ∙ addr_is y fresh.1) (num ∙ num_is y fresh.1) (way ∙ way_is y fresh.1))) (push_which d.endpoints new g y other))
      (λ (fresh : (e ≡ length d.endpoints) × (x ≡ new)).
      ⊎_elim (λ (too : slice_get d.endpoints g ≡ Some y). absurd (never_old g y too (sym addr ∙ addr_is x fresh.1) (sym num ∙ num_is x fresh.1) (sym way ∙ way_is x fresh.1)))
      (λ (also : (g ≡ length d.endpoints) × (y ≡ new)). fresh.0 ∙ sym also.0) (push_which d.endpoints new g y other)) (push_which d.endpoints new e x one)

  opened_apart : AreNamesApart o.driver
  opened_apart = subst (λ (g : Offered). AreNamesApart g.driver) (sym why.is) (with_new (new_endpoint why.desc (get_or (new_runs d why.holding_after) 0 0) (get_or (new_runs d why.holding_after) 1 0)) refl)

taken_apart : (d : DriverContent) (m : Mem) (o : Offered) → Transfers d m o → AreNamesApart d → AreNamesApart o.driver
taken_apart d m o t k =
    subst (λ (g : Offered). AreNamesApart g.driver) (sym t.is)
    (apart_by d (accepted_transfer d t.number t.endpoint t.asked t.holding_after (get_or (take (length t.asked.stages) (new_runs d t.holding_after)) (length t.asked.stages - 1) 0) (note_stages d.notes t.asked.stages t.endpoint.dummy (take (length t.asked.stages) (new_runs d t.holding_after)) (drop (length t.asked.stages) (new_runs d t.holding_after)))).driver
    (same_view desc_of d.endpoints t.number t.endpoint (with_queued t.endpoint (get_or (take (length t.asked.stages) (new_runs d t.holding_after)) (length t.asked.stages - 1) 0) (length d.transfers)) t.here refl) k)

pub accepted_names_are_apart : AcceptedNamesAreApart
accepted_names_are_apart d m o why k = ⊎_elim (λ (opened : Opens d m o). opened_apart d m o opened k) (λ (taken : Transfers d m o). taken_apart d m o taken k) why
