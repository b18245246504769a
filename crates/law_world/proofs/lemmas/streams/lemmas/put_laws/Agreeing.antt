-- Endpoints, the endpoints of transfers and accepted commands that agree: so they do with each command more.
use Rattle.std.proofs.Common.{◌≡◌, ◌≢◌, ℕ, zero, suc, ◌+◌, ◌<◌, Bool, true, false, List, [], ◌∷◌, ◌++◌, length, filter_map, slice_get, Option, Some, None, ap, sym, subst, refl, ◌∙◌, ⊎_elim, length-append, arith}
use Rattle.std.specs.Prelude.{◌⊎◌, if◌then◌else◌}
use Rattle.std.specs.List.{AllByRecursion, concat, cons_option}
use Rattle.std.proofs.lemmas.Bool.{cases_eq}
use Rattle.std.proofs.lemmas.Option.{same_Some, slice_get_within}
use Rattle.std.proofs.lemmas.List.{append-nil}
use Rattle.std.proofs.lemmas.List.Elements.{filter_map-append}
use Rattle.std.proofs.lemmas.List.Folds.{concat-append}
use Rattle.law_world.proofs.Common.{name_differs}
use Rattle.law_common.proofs.Lists.{push_which, still_there, pushed_last, all_both, all_more, each_here, nth_all}
use Rattle.usb_base.specs.declared.commands.Cmd.{Cmd}
use Rattle.usb_base.specs.declared.commands.Cmd.TheVariants as commands
use Rattle.usb_base.specs.declared.endpoints.EpName.{EpName}
use Rattle.usb_base.specs.declared.endpoints.EpDesc.{EpDesc}
use Rattle.bus_wire.specs.Fates.{is_same_name}
use Rattle.claims_report.specs.Streams.{open_in, put_in, has_stream}
use Rattle.law_queues.proofs.lemmas.told_endpoints.Names.{name_is_same}
use Rattle.claims_driver.specs.Scripts.{receives}
use Rattle.law_world.proofs.lemmas.streams.lemmas.put_laws.Sums.{puts_in, puts_join, puts_alike, puts_none, puts_one}
use Rattle.law_world.proofs.lemmas.streams.lemmas.put_laws.TakenAccepted.{IsNoSender}

pub record IsAmong (descs : List EpDesc) (desc : EpDesc) : Type 0 where
  pub number : ℕ
  pub here : slice_get descs number ≡ Some desc

abbrev pub HasNone : List EpDesc → EpName → Type 0
HasNone descs name = (e : ℕ) (x : EpDesc) → slice_get descs e ≡ Some x → x.name ≢ name

abbrev pub sent_to : List Cmd → EpName → List ℕ
sent_to cmds name = concat (filter_map (put_in name) cmds)

pub record Agrees (descs : List EpDesc) (owners : List ℕ) (cmds : List Cmd) (puts : ℕ → List ℕ) : Type 0 where
  pub each : (e : ℕ) (x : EpDesc) → slice_get descs e ≡ Some x → has_stream x.kind ≡ true → receives x.name.way ≡ false → concat (puts_in puts e 0 owners) ≡ sent_to cmds x.name
  pub others : (name : EpName) → HasNone descs name → sent_to cmds name ≡ []
  pub opened : AllByRecursion (IsAmong descs) (filter_map open_in cmds)
  pub apart : (e k : ℕ) (x y : EpDesc) → slice_get descs e ≡ Some x → slice_get descs k ≡ Some y → x.name ≡ y.name → e ≡ k
  pub within : (t e : ℕ) → slice_get owners t ≡ Some e → e < length descs

-- ---- one command more

sent_more : (cmds : List Cmd) (cmd : Cmd) (name : EpName) (o : Option (List ℕ)) → put_in name cmd ≡ o → sent_to (cmds ++ cmd ∷ []) name ≡ sent_to cmds name ++ concat (cons_option o [])
sent_more cmds cmd name o is =
    ap concat (filter_map-append (put_in name) cmds (cmd ∷ [])) ∙ concat-append (filter_map (put_in name) cmds) (filter_map (put_in name) (cmd ∷ []))
    ∙ ap (λ (z : Option (List ℕ)). sent_to cmds name ++ concat (cons_option z [])) is

sent_same : (cmds : List Cmd) (cmd : Cmd) (name : EpName) → put_in name cmd ≡ None → sent_to (cmds ++ cmd ∷ []) name ≡ sent_to cmds name
sent_same cmds cmd name is = sent_more cmds cmd name None is ∙ append-nil (sent_to cmds name)

opened_same : (descs : List EpDesc) (cmds : List Cmd) (cmd : Cmd) → open_in cmd ≡ None → AllByRecursion (IsAmong descs) (filter_map open_in cmds)
    → AllByRecursion (IsAmong descs) (filter_map open_in (cmds ++ cmd ∷ []))
opened_same descs cmds cmd is old =
    let same : filter_map open_in (cmds ++ cmd ∷ []) ≡ filter_map open_in cmds =
    filter_map-append open_in cmds (cmd ∷ []) ∙ ap (λ (z : Option EpDesc). filter_map open_in cmds ++ cons_option z []) is ∙ append-nil (filter_map open_in cmds) in
    subst (AllByRecursion (IsAmong descs)) (sym same) old

pub agrees_open : (descs : List EpDesc) (owners : List ℕ) (cmds : List Cmd) (puts : ℕ → List ℕ) (x : EpDesc) → HasNone descs x.name → Agrees descs owners cmds puts
    → Agrees (descs ++ x ∷ []) owners (cmds ++ commands.OpenEp x ∷ []) puts
agrees_open descs owners cmds puts x new old = record {
  each = λ e z here on out. each_by e z on out (push_which descs x e z here);
  others = λ name none.
      sent_same cmds (commands.OpenEp x) name refl ∙ old.others name (λ e z here. none e z (still_there descs (x ∷ []) e z here));
  opened = subst (AllByRecursion (IsAmong (descs ++ x ∷ []))) (sym (filter_map-append open_in cmds (commands.OpenEp x ∷ [])))
      (all_both (IsAmong (descs ++ x ∷ [])) (filter_map open_in cmds) (x ∷ [])
      (all_more (IsAmong descs) (IsAmong (descs ++ x ∷ [])) (filter_map open_in cmds) (λ z k. record { number = k.number; here = still_there descs (x ∷ []) k.number z k.here }) old.opened)
      (record { number = length descs; here = pushed_last descs x }, tt));
  apart = λ e k y z here there same. apart_by e k y z same (push_which descs x e y here) (push_which descs x k z there);
  within = λ t e here. let low = old.within t e here in let long = length-append descs (x ∷ []) in omega (arith, low, long);
}
  where
    none_yet : puts_in puts (length descs) 0 owners ≡ []
    none_yet = puts_none puts (length descs) 0 owners (each_here (λ o. o ≢ length descs) owners (λ t o here same. let low = old.within t o here in absurd (omega (arith, low, same))))

    each_by : (e : ℕ) (z : EpDesc) → has_stream z.kind ≡ true → receives z.name.way ≡ false → (slice_get descs e ≡ Some z) ⊎ ((e ≡ length descs) × (z ≡ x))
        → concat (puts_in puts e 0 owners) ≡ sent_to (cmds ++ commands.OpenEp x ∷ []) z.name
    each_by e z on out which = ⊎_elim
        (λ (was : slice_get descs e ≡ Some z). old.each e z was on out ∙ sym (sent_same cmds (commands.OpenEp x) z.name refl))
        (λ (own : (e ≡ length descs) × (z ≡ x)).
        ap concat (ap (λ (k : ℕ). puts_in puts k 0 owners) own.0 ∙ none_yet)
        ∙ sym (sent_same cmds (commands.OpenEp x) z.name refl ∙ old.others z.name (λ k y here same. new k y here (same ∙ ap (λ (w : EpDesc). w.name) own.1)))) which

    apart_by : (e k : ℕ) (y z : EpDesc) → y.name ≡ z.name → (slice_get descs e ≡ Some y) ⊎ ((e ≡ length descs) × (y ≡ x)) → (slice_get descs k ≡ Some z) ⊎ ((k ≡ length descs) × (z ≡ x)) → e ≡ k
    apart_by e k y z same one other = ⊎_elim
        (λ (here : slice_get descs e ≡ Some y). ⊎_elim
        (λ (there : slice_get descs k ≡ Some z). old.apart e k y z here there same)
        (λ (own : (k ≡ length descs) × (z ≡ x)). absurd (new e y here (same ∙ ap (λ (w : EpDesc). w.name) own.1))) other)
        (λ (first : (e ≡ length descs) × (y ≡ x)). ⊎_elim
        (λ (there : slice_get descs k ≡ Some z). absurd (new k z there (sym same ∙ ap (λ (w : EpDesc). w.name) first.1)))
        (λ (own : (k ≡ length descs) × (z ≡ x)). first.0 ∙ sym own.0) other) one

-- ---- a put more

no_put_to : (to name : EpName) (bytes : List ℕ) (by : ℕ) → to ≢ name → put_in name (commands.Put to bytes by) ≡ None
no_put_to to name bytes by differs = ap (λ (b : Bool). if b then Some bytes else None) (name_differs to name (is_same_name to name) refl differs)

put_to : (to name : EpName) (bytes : List ℕ) (by : ℕ) → to ≡ name → put_in name (commands.Put to bytes by) ≡ Some bytes
put_to to name bytes by same = ap (λ (n : EpName). put_in n (commands.Put to bytes by)) (sym same) ∙ ap (λ (b : Bool). if b then Some bytes else None) (name_is_same to)

-- the puts of the transfers that were there
kept_puts : (puts now : ℕ → List ℕ) (e : ℕ) (owners : List ℕ) → ((t : ℕ) → t < length owners → now t ≡ puts t) → puts_in now e 0 owners ≡ puts_in puts e 0 owners
kept_puts puts now e owners same = puts_alike puts now e 0 owners (λ t low high. same t (omega (arith, high)))

owners_within : (owners more : List ℕ) (n : ℕ) → ((t e : ℕ) → slice_get owners t ≡ Some e → e < n) → AllByRecursion (λ e. e < n) more → (t e : ℕ) → slice_get (owners ++ more) t ≡ Some e → e < n
owners_within [] more n low all t e here = nth_all (λ k. k < n) more t e all here
owners_within (o ∷ os) more n low all zero e here = low zero e here
owners_within (o ∷ os) more n low all (suc t) e here = owners_within os more n (λ u k there. low (suc u) k there) all t e here

pub agrees_put : (descs : List EpDesc) (owners : List ℕ) (cmds : List Cmd) (puts now : ℕ → List ℕ) (number : ℕ) (x : EpDesc) (to : EpName) (bytes : List ℕ) (by : ℕ) → slice_get descs number ≡ Some x → x.name ≡ to
    → ((t : ℕ) → t < length owners → now t ≡ puts t) → now (length owners) ≡ bytes → Agrees descs owners cmds puts
    → Agrees descs (owners ++ number ∷ []) (cmds ++ commands.Put to bytes by ∷ []) now
agrees_put descs owners cmds puts now number x to bytes by here named same last old = record {
  each = λ e z there on out. ⊎_elim (λ (own : e ≡ number). each_own e z own there on out) (λ (other : e ≢ number). each_other e z other there on out) (cases_eq e number);
  others = λ name none.
      sent_same cmds (commands.Put to bytes by) name (no_put_to to name bytes by (λ alike. none number x here (named ∙ alike))) ∙ old.others name none;
  opened = opened_same descs cmds (commands.Put to bytes by) refl old.opened;
  apart = old.apart;
  within = owners_within owners (number ∷ []) (length descs) old.within (slice_get_within descs number x here, tt);
}
  where
    before : (e : ℕ) → puts_in now e 0 (owners ++ number ∷ []) ≡ puts_in puts e 0 owners ++ puts_in now e (length owners) (number ∷ [])
    before e =
        puts_join now e 0 owners (number ∷ [])
        ∙ ap (λ (xs : List (List ℕ)). xs ++ puts_in now e (0 + length owners) (number ∷ [])) (kept_puts puts now e owners same)
        ∙ (let zero_more : 0 + length owners ≡ length owners = omega arith in ap (λ (k : ℕ). puts_in puts e 0 owners ++ puts_in now e k (number ∷ [])) zero_more)

    each_own : (e : ℕ) (z : EpDesc) → e ≡ number → slice_get descs e ≡ Some z → has_stream z.kind ≡ true → receives z.name.way ≡ false
        → concat (puts_in now e 0 (owners ++ number ∷ [])) ≡ sent_to (cmds ++ commands.Put to bytes by ∷ []) z.name
    each_own e z own there on out =
        let is : x ≡ z = same_Some x z (sym here ∙ ap (slice_get descs) (sym own) ∙ there) in
        ap concat (before e ∙ ap (λ (k : ℕ). puts_in puts e 0 owners ++ puts_in now e (length owners) (k ∷ [])) (sym own) ∙ ap (λ (xs : List (List ℕ)). puts_in puts e 0 owners ++ xs) (puts_one now e (length owners) ∙ ap (λ (w : List ℕ). w ∷ []) last))
        ∙ concat-append (puts_in puts e 0 owners) (bytes ∷ [])
        ∙ ap (λ (xs : List ℕ). xs ++ concat (bytes ∷ [])) (old.each e z there on out)
        ∙ sym (sent_more cmds (commands.Put to bytes by) z.name (Some bytes) (put_to to z.name bytes by (sym named ∙ ap (λ (w : EpDesc). w.name) is)))

    each_other : (e : ℕ) (z : EpDesc) → e ≢ number → slice_get descs e ≡ Some z → has_stream z.kind ≡ true → receives z.name.way ≡ false
        → concat (puts_in now e 0 (owners ++ number ∷ [])) ≡ sent_to (cmds ++ commands.Put to bytes by ∷ []) z.name
    each_other e z other there on out =
        ap concat (before e ∙ ap (λ (xs : List (List ℕ)). puts_in puts e 0 owners ++ xs) (puts_none now e (length owners) (number ∷ []) ((λ same_number. other (sym same_number)), tt)) ∙ append-nil (puts_in puts e 0 owners))
        ∙ old.each e z there on out
        ∙ sym (sent_same cmds (commands.Put to bytes by) z.name (no_put_to to z.name bytes by (λ alike. other (old.apart e number z x there here (sym alike ∙ sym named)))))

-- ---- other transfers more

pub agrees_others : (descs : List EpDesc) (owners : List ℕ) (cmds : List Cmd) (puts : ℕ → List ℕ) (cmd : Cmd) (more : List ℕ) → ((name : EpName) → put_in name cmd ≡ None) → open_in cmd ≡ None
    → AllByRecursion (IsNoSender descs) more → Agrees descs owners cmds puts → Agrees descs (owners ++ more) (cmds ++ cmd ∷ []) puts
agrees_others descs owners cmds puts cmd more no_put no_open none old = record {
  each = λ e z here on out.
      ap concat (puts_join puts e 0 owners more ∙ ap (λ (xs : List (List ℕ)). puts_in puts e 0 owners ++ xs) (puts_none puts e (0 + length owners) more (all_more (IsNoSender descs) (λ o. o ≢ e) more (λ o k same. own o e z k same here on out) none))
      ∙ append-nil (puts_in puts e 0 owners))
      ∙ old.each e z here on out ∙ sym (sent_same cmds cmd z.name (no_put z.name));
  others = λ name free. sent_same cmds cmd name (no_put name) ∙ old.others name free;
  opened = opened_same descs cmds cmd no_open old.opened;
  apart = old.apart;
  within = owners_within owners more (length descs) old.within (all_more (IsNoSender descs) (λ e. e < length descs) more (λ e k. slice_get_within descs e k.desc k.here) none);
}
  where
    own : (o e : ℕ) (z : EpDesc) (k : IsNoSender descs o) → o ≡ e → slice_get descs e ≡ Some z → has_stream z.kind ≡ true → receives z.name.way ≡ false → ⊥
    own o e z k same here on out =
        let is : z ≡ k.desc = same_Some z k.desc (sym here ∙ ap (slice_get descs) (sym same) ∙ k.here) in
        k.none (ap (λ (w : EpDesc). has_stream w.kind) (sym is) ∙ on) (ap (λ (w : EpDesc). receives w.name.way) (sym is) ∙ out)

-- ---- nothing more

-- a put that was refused has no transfer
pub agrees_same : (descs : List EpDesc) (owners : List ℕ) (cmds : List Cmd) (puts now : ℕ → List ℕ) → ((t : ℕ) → t < length owners → now t ≡ puts t) → Agrees descs owners cmds puts → Agrees descs owners cmds now
agrees_same descs owners cmds puts now same old = record {
  each = λ e x here on out. ap concat (kept_puts puts now e owners same) ∙ old.each e x here on out;
  others = old.others;
  opened = old.opened;
  apart = old.apart;
  within = old.within;
}
