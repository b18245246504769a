-- Endpoints, the endpoints of transfers and accepted commands that agree on requests: so they do with each command more.
use Rattle.std.proofs.Common.{◌≡◌, ◌≢◌, ℕ, suc, ◌+◌, ◌<◌, ◌==◌, Bool, true, false, List, [], ◌∷◌, ◌++◌, length, map, filter_map, slice_get, Option, Some, None, ap, sym, refl, ◌∙◌, ⊎_elim, arith}
use Rattle.std.specs.Prelude.{◌⊎◌, if◌then◌else◌}
use Rattle.std.specs.List.{AllByRecursion, cons_option}
use Rattle.std.proofs.lemmas.Bool.{cases_eq, eq-eqb, eqb-true, true≢false}
use Rattle.std.proofs.lemmas.Option.{same_Some}
use Rattle.std.proofs.lemmas.List.{append-nil, map-append}
use Rattle.std.proofs.lemmas.List.Elements.{filter_map-append}
use Rattle.law_world.proofs.Common.{name_differs}
use Rattle.law_common.proofs.Lists.{push_which, still_there, all_more, each_here}
use Rattle.usb_base.specs.declared.commands.Cmd.{Cmd}
use Rattle.usb_base.specs.declared.commands.Cmd.TheVariants as commands
use Rattle.usb_base.specs.declared.endpoints.EpName.{EpName}
use Rattle.usb_base.specs.declared.endpoints.EpDesc.{EpDesc}
use Rattle.drv_table.specs.declared.content.Transfer.{Transfer}
use Rattle.drv_table.specs.Words.{is_control}
use Rattle.bus_wire.specs.Fates.{is_same_name}
use Rattle.claims_report.specs.Requests.{Request, request_in}
use Rattle.law_queues.proofs.lemmas.told_endpoints.Names.{name_is_same}
use Rattle.law_world.proofs.lemmas.streams.lemmas.put_laws.Stays.{owner_at}
use Rattle.law_world.proofs.lemmas.streams.lemmas.put_laws.Agreeing.{HasNone}
use Rattle.claims_world.specs.Requests.{numbers_from}
use Rattle.law_reports.proofs.lemmas.requests.lemmas.told_requests.Adding.{IsNoControl}

-- ---- the numbers of transfers, by the endpoints of these alone

pub numbers_in : ℕ → ℕ → List ℕ → List ℕ
numbers_in e n [] = []
numbers_in e n (o ∷ os) = if o == e then n ∷ numbers_in e (suc n) os else numbers_in e (suc n) os

pub by_owners : (e n : ℕ) (ys : List Transfer) → numbers_from e n ys ≡ numbers_in e n (map owner_at ys)
unfolding numbers_in
by_owners e n [] = refl
by_owners e n (y ∷ ys) = ap (λ (rest : List ℕ). if y.endpoint == e then n ∷ rest else rest) (by_owners e (suc n) ys)

if_join : (b : Bool) (x : ℕ) (xs ys : List ℕ) → (if b then x ∷ (xs ++ ys) else (xs ++ ys)) ≡ (if b then x ∷ xs else xs) ++ ys
if_join true x xs ys = refl
if_join false x xs ys = refl

pub numbers_join : (e n : ℕ) (os ps : List ℕ) → numbers_in e n (os ++ ps) ≡ numbers_in e n os ++ numbers_in e (n + length os) ps
unfolding numbers_in
numbers_join e n [] ps = let same : n ≡ n + 0 = omega arith in ap (λ (k : ℕ). numbers_in e k ps) same
numbers_join e n (o ∷ os) ps =
    let same : suc n + length os ≡ n + suc (length os) = omega arith in
    ap (λ (rest : List ℕ). if o == e then n ∷ rest else rest) (numbers_join e (suc n) os ps ∙ ap (λ (k : ℕ). numbers_in e (suc n) os ++ numbers_in e k ps) same)
    ∙ if_join (o == e) n (numbers_in e (suc n) os) (numbers_in e (n + suc (length os)) ps)

alike_by : {X : Type 0} (f g : ℕ → X) (b : Bool) (n : ℕ) (xs : List ℕ) → g n ≡ f n → map g xs ≡ map f xs → map g (if b then n ∷ xs else xs) ≡ map f (if b then n ∷ xs else xs)
alike_by f g true n xs first rest = ap (λ x. x ∷ map g xs) first ∙ ap (λ xs. f n ∷ xs) rest
alike_by f g false n xs first rest = rest

-- others that are the same for these
pub requests_alike : {X : Type 0} (f g : ℕ → X) (e n : ℕ) (os : List ℕ) → ((t : ℕ) → t < n + length os → g t ≡ f t) → map g (numbers_in e n os) ≡ map f (numbers_in e n os)
unfolding numbers_in
requests_alike f g e n [] same = refl
requests_alike f g e n (o ∷ os) same =
    alike_by f g (o == e) n (numbers_in e (suc n) os) (same n (omega arith)) (requests_alike f g e (suc n) os (λ t high. same t (omega (arith, high))))

not_there : (o e n : ℕ) (xs : List ℕ) (b : Bool) → (o == e) ≡ b → o ≢ e → (if b then n ∷ xs else xs) ≡ xs
not_there o e n xs true is differs = absurd (differs (eqb-true o e is))
not_there o e n xs false is differs = refl

pub numbers_none : (e n : ℕ) (os : List ℕ) → AllByRecursion (λ o. o ≢ e) os → numbers_in e n os ≡ []
unfolding numbers_in
numbers_none e n [] none = refl
numbers_none e n (o ∷ os) none = not_there o e n (numbers_in e (suc n) os) (o == e) refl none.0 ∙ numbers_none e (suc n) os none.1

pub numbers_single : (e n o : ℕ) → numbers_in e n (o ∷ []) ≡ (if o == e then n ∷ [] else [])
unfolding numbers_in
numbers_single e n o = refl

numbers_one : (e n : ℕ) → numbers_in e n (e ∷ []) ≡ n ∷ []
unfolding numbers_in
numbers_one e n = ap (λ (b : Bool). if b then n ∷ [] else []) (eq-eqb e e refl)

-- ---- requests and commands

abbrev pub asked_of : (ℕ → Request) → ℕ → List ℕ → List Request
asked_of asks e owners = map asks (numbers_in e 0 owners)

abbrev pub asked_in : List Cmd → EpName → List Request
asked_in cmds name = filter_map (request_in name) cmds

pub record Agrees (descs : List EpDesc) (owners : List ℕ) (cmds : List Cmd) (asks : ℕ → Request) : Type 0 where
  pub each : (e : ℕ) (x : EpDesc) → slice_get descs e ≡ Some x → is_control x.kind ≡ true → asked_of asks e owners ≡ asked_in cmds x.name
  pub others : (name : EpName) → HasNone descs name → asked_in cmds name ≡ []

asked_more : (cmds : List Cmd) (cmd : Cmd) (name : EpName) (o : Option Request) → request_in name cmd ≡ o → asked_in (cmds ++ cmd ∷ []) name ≡ asked_in cmds name ++ cons_option o []
asked_more cmds cmd name o is = filter_map-append (request_in name) cmds (cmd ∷ []) ∙ ap (λ (z : Option Request). asked_in cmds name ++ cons_option z []) is

asked_same : (cmds : List Cmd) (cmd : Cmd) (name : EpName) → request_in name cmd ≡ None → asked_in (cmds ++ cmd ∷ []) name ≡ asked_in cmds name
asked_same cmds cmd name is = asked_more cmds cmd name None is ∙ append-nil (asked_in cmds name)

-- what is asked by more transfers
asked_join : (asks now : ℕ → Request) (e : ℕ) (owners more : List ℕ) → ((t : ℕ) → t < length owners → now t ≡ asks t) → asked_of now e (owners ++ more) ≡ asked_of asks e owners ++ map now (numbers_in e (length owners) more)
asked_join asks now e owners more same =
    ap (map now) (numbers_join e 0 owners more) ∙ map-append now (numbers_in e 0 owners) (numbers_in e (0 + length owners) more)
    ∙ ap (λ (rs : List Request). rs ++ map now (numbers_in e (0 + length owners) more)) (requests_alike asks now e 0 owners (λ t high. same t (omega (arith, high))))
    ∙ (let zero_more : 0 + length owners ≡ length owners = omega arith in ap (λ (k : ℕ). asked_of asks e owners ++ map now (numbers_in e k more)) zero_more)

asked_no_more : (asks now : ℕ → Request) (e : ℕ) (owners more : List ℕ) → ((t : ℕ) → t < length owners → now t ≡ asks t) → AllByRecursion (λ o. o ≢ e) more → asked_of now e (owners ++ more) ≡ asked_of asks e owners
asked_no_more asks now e owners more same none =
    asked_join asks now e owners more same ∙ ap (λ (ns : List ℕ). asked_of asks e owners ++ map now ns) (numbers_none e (length owners) more none) ∙ append-nil (asked_of asks e owners)

pub agrees_same : (descs : List EpDesc) (owners : List ℕ) (cmds : List Cmd) (asks now : ℕ → Request) → ((t : ℕ) → t < length owners → now t ≡ asks t) → Agrees descs owners cmds asks → Agrees descs owners cmds now
agrees_same descs owners cmds asks now same old = record {
  each = λ e x here on. requests_alike asks now e 0 owners (λ t high. same t (omega (arith, high))) ∙ old.each e x here on;
  others = old.others;
}

-- ---- an endpoint more

pub agrees_open : (descs : List EpDesc) (owners : List ℕ) (cmds : List Cmd) (asks : ℕ → Request) (x : EpDesc) → HasNone descs x.name → ((t e : ℕ) → slice_get owners t ≡ Some e → e < length descs) → Agrees descs owners cmds asks
    → Agrees (descs ++ x ∷ []) owners (cmds ++ commands.OpenEp x ∷ []) asks
agrees_open descs owners cmds asks x new within old = record {
  each = λ e z here on. each_by e z on (push_which descs x e z here);
  others = λ name none. asked_same cmds (commands.OpenEp x) name refl ∙ old.others name (λ e z here. none e z (still_there descs (x ∷ []) e z here));
}
  where
    none_yet : numbers_in (length descs) 0 owners ≡ []
    none_yet = numbers_none (length descs) 0 owners (each_here (λ o. o ≢ length descs) owners (λ t o here same. let low = within t o here in absurd (omega (arith, low, same))))

    each_by : (e : ℕ) (z : EpDesc) → is_control z.kind ≡ true → (slice_get descs e ≡ Some z) ⊎ ((e ≡ length descs) × (z ≡ x)) → asked_of asks e owners ≡ asked_in (cmds ++ commands.OpenEp x ∷ []) z.name
    each_by e z on which = ⊎_elim
        (λ (was : slice_get descs e ≡ Some z). old.each e z was on ∙ sym (asked_same cmds (commands.OpenEp x) z.name refl))
        (λ (own : (e ≡ length descs) × (z ≡ x)).
        ap (map asks) (ap (λ (k : ℕ). numbers_in k 0 owners) own.0 ∙ none_yet)
        ∙ sym (asked_same cmds (commands.OpenEp x) z.name refl ∙ old.others z.name (λ k y here same. new k y here (same ∙ ap (λ (w : EpDesc). w.name) own.1)))) which

-- ---- a request more

abbrev asked_one : List ℕ → List ℕ → Request
asked_one setup bytes = record { setup = setup; bytes = bytes }

none_to : (to name : EpName) (setup bytes : List ℕ) → to ≢ name → request_in name (commands.Control to setup bytes) ≡ None
none_to to name setup bytes differs = ap (λ (b : Bool). if b then Some (asked_one setup bytes) else None) (name_differs to name (is_same_name to name) refl differs)

one_to : (to name : EpName) (setup bytes : List ℕ) → to ≡ name → request_in name (commands.Control to setup bytes) ≡ Some (asked_one setup bytes)
one_to to name setup bytes same =
    ap (λ (n : EpName). request_in n (commands.Control to setup bytes)) (sym same) ∙ ap (λ (b : Bool). if b then Some (asked_one setup bytes) else None) (name_is_same to)

pub agrees_request : (descs : List EpDesc) (owners : List ℕ) (cmds : List Cmd) (asks now : ℕ → Request) (number : ℕ) (x : EpDesc) (to : EpName) (setup bytes : List ℕ) → slice_get descs number ≡ Some x → x.name ≡ to
    → ((e k : ℕ) (y z : EpDesc) → slice_get descs e ≡ Some y → slice_get descs k ≡ Some z → y.name ≡ z.name → e ≡ k)
    → ((t : ℕ) → t < length owners → now t ≡ asks t) → now (length owners) ≡ record { setup = setup; bytes = bytes } → Agrees descs owners cmds asks
    → Agrees descs (owners ++ number ∷ []) (cmds ++ commands.Control to setup bytes ∷ []) now
agrees_request descs owners cmds asks now number x to setup bytes here named apart same last old = record {
  each = λ e z there on. ⊎_elim (λ (own : e ≡ number). each_own e z own there on) (λ (other : e ≢ number). each_other e z other there on) (cases_eq e number);
  others = λ name none.
      asked_same cmds (commands.Control to setup bytes) name (none_to to name setup bytes (λ alike. none number x here (named ∙ alike))) ∙ old.others name none;
}
  where
    each_own : (e : ℕ) (z : EpDesc) → e ≡ number → slice_get descs e ≡ Some z → is_control z.kind ≡ true → asked_of now e (owners ++ number ∷ []) ≡ asked_in (cmds ++ commands.Control to setup bytes ∷ []) z.name
    each_own e z own there on =
        let is : x ≡ z = same_Some x z (sym here ∙ ap (slice_get descs) (sym own) ∙ there) in
        asked_join asks now e owners (number ∷ []) same
        ∙ ap (λ (k : ℕ). asked_of asks e owners ++ map now (numbers_in e (length owners) (k ∷ []))) (sym own)
        ∙ ap (λ (ns : List ℕ). asked_of asks e owners ++ map now ns) (numbers_one e (length owners))
        ∙ ap (λ (r : Request). asked_of asks e owners ++ r ∷ []) last
        ∙ ap (λ (rs : List Request). rs ++ asked_one setup bytes ∷ []) (old.each e z there on)
        ∙ sym (asked_more cmds (commands.Control to setup bytes) z.name (Some (asked_one setup bytes)) (one_to to z.name setup bytes (sym named ∙ ap (λ (w : EpDesc). w.name) is)))

    each_other : (e : ℕ) (z : EpDesc) → e ≢ number → slice_get descs e ≡ Some z → is_control z.kind ≡ true → asked_of now e (owners ++ number ∷ []) ≡ asked_in (cmds ++ commands.Control to setup bytes ∷ []) z.name
    each_other e z other there on =
        asked_no_more asks now e owners (number ∷ []) same ((λ same_number. other (sym same_number)), tt)
        ∙ old.each e z there on
        ∙ sym (asked_same cmds (commands.Control to setup bytes) z.name (none_to to z.name setup bytes (λ alike. other (apart e number z x there here (sym alike ∙ sym named)))))

-- ---- other transfers more

pub agrees_others : (descs : List EpDesc) (owners : List ℕ) (cmds : List Cmd) (asks : ℕ → Request) (cmd : Cmd) (more : List ℕ) → ((name : EpName) → request_in name cmd ≡ None) → AllByRecursion (IsNoControl descs) more
    → Agrees descs owners cmds asks → Agrees descs (owners ++ more) (cmds ++ cmd ∷ []) asks
agrees_others descs owners cmds asks cmd more no_request none old = record {
  each = λ e z here on.
      asked_no_more asks asks e owners more (λ t low. refl)
      (all_more (IsNoControl descs) (λ o. o ≢ e) more
      (λ o k same. true≢false (sym on ∙ ap (λ (w : EpDesc). is_control w.kind) (same_Some z k.desc (sym here ∙ ap (slice_get descs) (sym same) ∙ k.here)) ∙ k.none)) none)
      ∙ old.each e z here on ∙ sym (asked_same cmds cmd z.name (no_request z.name));
  others = λ name none_named. asked_same cmds cmd name (no_request name) ∙ old.others name none_named;
}
