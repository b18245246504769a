-- No two endpoints have one name, along a run.
use Rattle.std.proofs.Common.{◌≡◌, ℕ, zero, suc, ◌+◌, ◌⊎◌, Bool, true, false, cond, List, [], ◌∷◌, ◌++◌, length, set, slice_get, Option, Some, None, Result, Ok, Err, option_map, ap, refl, sym, subst, ◌∙◌, ⊎_elim, inl, inr}
use Rattle.std.specs.Prelude.{is_none}
use Rattle.std.specs.List.{position, position_from}
use Rattle.std.proofs.lemmas.Option.{same_Some}
use Rattle.std.proofs.lemmas.Iterator.Adapters.{position_from-zero}
use Rattle.law_common.proofs.Options.{some_not_none, by_test}
use Rattle.law_queues.proofs.Common.{same_name}
use Rattle.usb_base.specs.declared.commands.Cmd.{Cmd}
use Rattle.usb_base.specs.declared.endpoints.EpDesc.{EpDesc}
use Rattle.usb_base.specs.declared.reports.OfferError.{OfferError}
use Rattle.script_types.specs.declared.scripts.Script.{Script}
use Rattle.word_mem.specs.Memory.{Mem}
use Rattle.drv_table.specs.declared.content.Command.TheVariants as unfinished
use Rattle.drv_table.specs.declared.content.Endpoint.{Endpoint}
use Rattle.drv_table.specs.DriverContent.{DriverContent, is_same_name, endpoint_of}
use Rattle.drv_table.specs.Accepting.{Offered}
use Rattle.drv_table.specs.Commands.{leave_frames, no_command, finished, or_finished}
use Rattle.drv_table.specs.CancelOffers.{endpoint_members, with_cancel}
use Rattle.drv_table.specs.Offers.{offered}
use Rattle.law_driver.specs.run_owners.Accepts.{Accepts, opens, chains, places, transfers, describes, cancels, unchains}
use Rattle.law_driver.proofs.lemmas.run_owners.Commands.{each_command_has_its_reason}
use Rattle.law_driver.proofs.lemmas.run_owners.Stays.{same_view}
use Rattle.law_driver_ring.proofs.lemmas.walk_members.Descriptions.{desc_of, SameDescs}
use Rattle.law_queues.specs.open_laws.Opens.{AreNamesApart}
use Rattle.law_queues.proofs.lemmas.open_names.Apart.{names_stay_apart, accepted_names_are_apart}
use Rattle.law_world.specs.steps.receiving_runs.Runs.{IsKeptBy}
use Rattle.law_world.proofs.lemmas.steps.lemmas.receiving_runs.Runs.{holds_throughout}
use Rattle.bus_wire.specs.Bus.{fixed_of}
use Rattle.bus_world.specs.World.{World, driver_parts, name_in, commanded, commanded_by}
use Rattle.law_microframes.specs.plans.Laws.{ScriptsNameApart}
use Rattle.law_microframes.proofs.lemmas.plans.Right.{AnyCommand, any_lines}

abbrev AreApart : List Endpoint → Type 0
AreApart xs = (e f : ℕ) (x y : Endpoint) → slice_get xs e ≡ Some x → slice_get xs f ≡ Some y
    → x.desc.name.addr ≡ y.desc.name.addr → x.desc.name.num ≡ y.desc.name.num → x.desc.name.way ≡ y.desc.name.way → e ≡ f

-- ---- where descriptions stay

record HadDesc (xs : List Endpoint) (e : ℕ) (x : Endpoint) : Type 0 where
  endpoint : Endpoint
  here : slice_get xs e ≡ Some endpoint
  same : x.desc ≡ endpoint.desc

desc_by : (xs : List Endpoint) (e : ℕ) (x : Endpoint) (o : Option Endpoint) → slice_get xs e ≡ o → Some x.desc ≡ option_map desc_of o
    → HadDesc xs e x
desc_by xs e x None here is = absurd cc
desc_by xs e x (Some z) here is = record { endpoint = z; here = here; same = same_Some x.desc z.desc is }

desc_back : (xs ys : List Endpoint) (e : ℕ) (x : Endpoint) → SameDescs xs ys → slice_get ys e ≡ Some x → HadDesc xs e x
desc_back xs ys e x same here = desc_by xs e x (slice_get xs e) refl (sym (ap (option_map desc_of) here) ∙ same e)

apart_by : (xs ys : List Endpoint) → SameDescs xs ys → AreApart xs → AreApart ys
apart_by xs ys same k e g x y one other addr num way =
    let a : HadDesc xs e x = desc_back xs ys e x same one in
    let b : HadDesc xs g y = desc_back xs ys g y same other in
    k e g a.endpoint b.endpoint a.here b.here
    (sym (ap (λ (z : EpDesc). z.name.addr) a.same) ∙ addr ∙ ap (λ (z : EpDesc). z.name.addr) b.same)
    (sym (ap (λ (z : EpDesc). z.name.num) a.same) ∙ num ∙ ap (λ (z : EpDesc). z.name.num) b.same)
    (sym (ap (λ (z : EpDesc). z.name.way) a.same) ∙ way ∙ ap (λ (z : EpDesc). z.name.way) b.same)

set_apart : (xs : List Endpoint) (e : ℕ) (x y : Endpoint) → slice_get xs e ≡ Some x → y.desc ≡ x.desc → AreApart xs → AreApart (set xs e y)
set_apart xs e x y here same k = apart_by xs (set xs e y) (same_view desc_of xs e x y here same) k

-- ---- an endpoint that is opened

found_from : (t : Endpoint → Bool) (i : ℕ) (xs : List Endpoint) (j : ℕ) (x : Endpoint) → slice_get xs j ≡ Some x → t x ≡ true
    → position_from t i xs ≡ None → ⊥
found_from t i [] j x there on none = cc
found_from t i (z ∷ zs) zero x there on none =
    let same : z ≡ x = same_Some z x there in
    some_not_none i (sym (ap (λ (b : Bool). cond b (Some i) (position_from t (i + 1) zs)) (ap t same ∙ on)) ∙ none)
found_from t i (z ∷ zs) (suc j) x there on none =
    by_test (t z) i (position_from t (i + 1) zs) (found_from t (i + 1) zs j x there on) none

no_position : (t : Endpoint → Bool) (xs : List Endpoint) (j : ℕ) (x : Endpoint) → slice_get xs j ≡ Some x → t x ≡ true
    → position t xs ≡ None → ⊥
no_position t xs j x there on none = found_from t 0 xs j x there on (sym (position_from-zero t xs) ∙ none)

push_which : (xs : List Endpoint) (x : Endpoint) (n : ℕ) (z : Endpoint) → slice_get (xs ++ x ∷ []) n ≡ Some z
    → (slice_get xs n ≡ Some z) ⊎ ((n ≡ length xs) × (z ≡ x))
push_which [] x zero z here = inr (refl, sym (same_Some x z here))
push_which [] x (suc n) z here = absurd cc
push_which (y ∷ ys) x zero z here = inl here
push_which (y ∷ ys) x (suc n) z here =
    ⊎_elim (λ (was : slice_get ys n ≡ Some z). inl was) (λ (new : (n ≡ length ys) × (z ≡ x)). inr (ap suc new.0, new.1))
    (push_which ys x n z here)

abbrev IsNameOf : EpDesc → Endpoint → Type 0
IsNameOf x z = (z.desc.name.addr ≡ x.name.addr) × (z.desc.name.num ≡ x.name.num) × (z.desc.name.way ≡ x.name.way)

named_new : (x : EpDesc) (new z : Endpoint) → new.desc ≡ x → z ≡ new → IsNameOf x z
named_new x new z is same = (
  ap (λ (w : Endpoint). w.desc.name.addr) same ∙ ap (λ (w : EpDesc). w.name.addr) is,
  ap (λ (w : Endpoint). w.desc.name.num) same ∙ ap (λ (w : EpDesc). w.name.num) is,
  ap (λ (w : Endpoint). w.desc.name.way) same ∙ ap (λ (w : EpDesc). w.name.way) is,
)

module _ (d : DriverContent) (x : EpDesc) (new_name : endpoint_of d x.name ≡ None) (k : AreNamesApart d) where
  never_old : (e : ℕ) (z : Endpoint) → slice_get d.endpoints e ≡ Some z → IsNameOf x z → ⊥
  never_old e z there is =
      no_position (λ (v : Endpoint). is_same_name v.desc.name x.name) d.endpoints e z there
      (same_name z.desc.name x.name is.0 is.1 is.2) new_name

  pub pushed_apart : (new : Endpoint) → new.desc ≡ x → AreApart (d.endpoints ++ new ∷ [])
  pushed_apart new is e g y z one other addr num way =
      ⊎_elim
      (λ (was : slice_get d.endpoints e ≡ Some y).
      ⊎_elim (λ (too : slice_get d.endpoints g ≡ Some z). k e g y z was too addr num way)
      (λ (fresh : (g ≡ length d.endpoints) × (z ≡ new)).
      let n = named_new x new z is fresh.1 in absurd (never_old e y was (addr ∙ n.0, num ∙ n.1, way ∙ n.2)))
      (push_which d.endpoints new g z other))
      (λ (fresh : (e ≡ length d.endpoints) × (y ≡ new)).
      ⊎_elim
      (λ (too : slice_get d.endpoints g ≡ Some z).
      let n = named_new x new y is fresh.1 in absurd (never_old g z too (sym addr ∙ n.0, sym num ∙ n.1, sym way ∙ n.2)))
      (λ (also : (g ≡ length d.endpoints) × (z ≡ new)). fresh.0 ∙ sym also.0) (push_which d.endpoints new g z other))
      (push_which d.endpoints new e y one)

-- ---- a cancel of a periodic endpoint

either : (d e : DriverContent) (b : Bool) → AreNamesApart d → AreNamesApart e → AreNamesApart (cond b d e)
either d e true one two = one
either d e false one two = two

frames_apart : (d : DriverContent) (e : ℕ) (o : Option Endpoint) → slice_get d.endpoints e ≡ o → AreNamesApart d
    → AreNamesApart (leave_frames d e o)
frames_apart d e None here k = k
frames_apart d e (Some x) here k = either _ d x.chained (set_apart d.endpoints e x (record x { chained = false }) here refl k) k

done_apart : (d : DriverContent) (e : ℕ) → AreNamesApart d → AreNamesApart (or_finished d (unfinished.Unchain e))
done_apart d e k =
    either (finished d (unfinished.Unchain e)) d (is_none d.periodic.list.work)
    (frames_apart (no_command d) e (slice_get d.endpoints e) refl k) k

-- ---- a command

by_reason : (d : DriverContent) (m : Mem) (o : Offered) → Accepts d m o → AreNamesApart d → AreNamesApart o.driver
by_reason d m o (opens why) k = accepted_names_are_apart d m o (inl why) k
by_reason d m o (transfers why) k = accepted_names_are_apart d m o (inr why) k
by_reason d m o (chains why) k =
    subst (λ (g : Offered). AreNamesApart g.driver) (sym why.is) (pushed_apart d why.desc why.new_name k _ refl)
by_reason d m o (places why) k =
    subst (λ (g : Offered). AreNamesApart g.driver) (sym why.is) (pushed_apart d why.desc why.new_name k _ refl)
by_reason d m o (describes why) k =
    subst (λ (g : Offered). AreNamesApart g.driver) (sym why.is) (set_apart d.endpoints why.number why.endpoint _ why.here refl k)
by_reason d m o (cancels why) k =
    subst (λ (g : Offered). AreNamesApart g.driver) (sym why.is) (set_apart d.endpoints why.number why.endpoint _ why.here refl k)
by_reason d m o (unchains why) k =
    subst (λ (g : Offered). AreNamesApart g.driver) (sym why.is)
    (done_apart (with_cancel d why.number why.endpoint (endpoint_members d why.number why.endpoint why.placement)) why.number
    (set_apart d.endpoints why.number why.endpoint _ why.here refl k))

command_apart : (w : World) (n : ℕ) (cmd : Cmd) → AreNamesApart w.driver → AreNamesApart (commanded w n cmd).driver
command_apart w n cmd k = by (offered w.driver w.memory cmd) refl
  where
    by : (r : Result Offered OfferError) → offered w.driver w.memory cmd ≡ r → AreNamesApart (commanded_by w n (name_in cmd) r).driver
    by (Err why) is = k
    by (Ok o) is = by_reason w.driver w.memory o (each_command_has_its_reason w.driver w.memory cmd o is) k

is_kept : (s : Script) → IsKeptBy (fixed_of s) AnyCommand (λ w. AreNamesApart w.driver)
is_kept s = record {
  driver = λ w k. names_stay_apart (driver_parts w) k;
  controller = λ w k. k;
  command = λ w line cmd can room k. command_apart w line cmd k;
}

pub scripts_name_apart : ScriptsNameApart
scripts_name_apart s fit k =
    holds_throughout AnyCommand (λ w. AreNamesApart w.driver) s fit (any_lines s.lines) (λ e f x y one other. absurd (cc)) (is_kept s) k
