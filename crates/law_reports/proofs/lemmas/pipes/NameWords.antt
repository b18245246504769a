-- The words of a descriptor that tell its endpoint's name: words 9 and 10 of an iTD, word 1 of a siTD (EHCI 1.0, 3.3.3 and 3.4.2).
use Rattle.std.proofs.Common.{◌≡◌, ℕ, ◌+◌, ◌*◌, ◌/◌, ◌<◌, ◌≤◌, Bool, true, false, List, [], ◌∷◌, slice_index, refl, sym, subst, arith}
use Rattle.std.specs.Prelude.{unwrap_or}
use Rattle.std.proofs.lemmas.Bool.{eq-eqb}
use Rattle.law_common.proofs.Numbers.{other_number}
use Rattle.usb_base.specs.declared.endpoints.EpDesc.{EpDesc}
use Rattle.word_mem.specs.Memory.{Mem, word_at}
use Rattle.word_mem.specs.Views.{words_at, words_in}
use Rattle.word_mem.proofs.Words.{words_in_same}
use Rattle.itd_sitd.specs.Itd.{itd_at, itd_words}
use Rattle.itd_sitd.specs.Sitd.{sitd_at, sitd_words}
use Rattle.drv_periodic_table.specs.Descriptors.{is_in, new_itd, new_sitd}
use Rattle.law_descriptors.specs.Written.{HasFields}
use Rattle.law_reports.specs.pipes.DescriptorNames.{TellsName, TellsBy}

abbrev pub ItdTells : List ℕ → EpDesc → Type 0
ItdTells ws x = TellsName (itd_at ws).addr (itd_at ws).ep (itd_at ws).dir_in x

abbrev pub SitdTells : List ℕ → EpDesc → Type 0
SitdTells ws x = TellsName (sitd_at ws).addr (sitd_at ws).ep (sitd_at ws).dir_in x

-- ---- the link isn't of the name

itd_linked : (w v : ℕ) (rest : List ℕ) (x : EpDesc) → ItdTells (w ∷ rest) x → ItdTells (v ∷ rest) x
unfolding itd_at
itd_linked w v rest x k = record { address = k.address; number = k.number; way = k.way }

sitd_one : (ws : List ℕ) (x : EpDesc) → SitdTells ws x → SitdTells (0 ∷ slice_index ws 1 ∷ []) x
unfolding sitd_at
sitd_one ws x k = record { address = k.address; number = k.number; way = k.way }

one_sitd : (ws : List ℕ) (x : EpDesc) → SitdTells (0 ∷ slice_index ws 1 ∷ []) x → SitdTells ws x
unfolding sitd_at
one_sitd ws x k = record { address = k.address; number = k.number; way = k.way }

-- ---- a new one

itd_addr : (x : EpDesc) (smask slot : ℕ) (runs : List ℕ) → x.name.addr < 128
    → (itd_at (itd_words (new_itd x smask slot runs))).addr ≡ x.name.addr
unfolding itd_at itd_words
itd_addr x smask slot runs few = omega (arith, few)

itd_ep : (x : EpDesc) (smask slot : ℕ) (runs : List ℕ) → x.name.addr < 128 → x.name.num < 16
    → (itd_at (itd_words (new_itd x smask slot runs))).ep ≡ x.name.num
unfolding itd_at itd_words
itd_ep x smask slot runs few low = omega (arith, few, low)

itd_dir : (x : EpDesc) (smask slot : ℕ) (runs : List ℕ) → x.max ≤ 1024 → (b : Bool)
    → (itd_at (itd_words (record (new_itd x smask slot runs) { dir_in = b }))).dir_in ≡ b
unfolding itd_at itd_words
itd_dir x smask slot runs few true = eq-eqb _ _ (omega (arith, few))
itd_dir x smask slot runs few false = other_number _ _ (λ e. omega (arith, few, e))

sitd_dir : (x : EpDesc) (smask cmask slot : ℕ) (runs : List ℕ) → x.name.addr < 128 → x.name.num < 16 → unwrap_or x.hub 0 < 128
    → x.port < 128 → (b : Bool)
    → (sitd_at (sitd_words (record (new_sitd x smask cmask slot runs) { dir_in = b }))).dir_in ≡ b
unfolding sitd_at sitd_words
sitd_dir x smask cmask slot runs addr num hub port true = eq-eqb _ _ (omega (arith, addr, num, hub, port))
sitd_dir x smask cmask slot runs addr num hub port false = other_number _ _ (λ e. omega (arith, addr, num, hub, port, e))

sitd_addr : (x : EpDesc) (smask cmask slot : ℕ) (runs : List ℕ) → x.name.addr < 128
    → (sitd_at (sitd_words (new_sitd x smask cmask slot runs))).addr ≡ x.name.addr
unfolding sitd_at sitd_words
sitd_addr x smask cmask slot runs few = omega (arith, few)

sitd_ep : (x : EpDesc) (smask cmask slot : ℕ) (runs : List ℕ) → x.name.addr < 128 → x.name.num < 16
    → (sitd_at (sitd_words (new_sitd x smask cmask slot runs))).ep ≡ x.name.num
unfolding sitd_at sitd_words
sitd_ep x smask cmask slot runs few low = omega (arith, few, low)

pub new_itd_tells : (x : EpDesc) (smask slot : ℕ) (runs : List ℕ) → HasFields x → ItdTells (itd_words (new_itd x smask slot runs)) x
new_itd_tells x smask slot runs fits = record {
  address = itd_addr x smask slot runs fits.addr;
  number = itd_ep x smask slot runs fits.addr fits.num;
  way = itd_dir x smask slot runs fits.max (is_in x.name.way);
}

pub new_sitd_tells : (x : EpDesc) (smask cmask slot : ℕ) (runs : List ℕ) → HasFields x
    → SitdTells (sitd_words (new_sitd x smask cmask slot runs)) x
new_sitd_tells x smask cmask slot runs fits = record {
  address = sitd_addr x smask cmask slot runs fits.addr;
  number = sitd_ep x smask cmask slot runs fits.addr fits.num;
  way = sitd_dir x smask cmask slot runs fits.addr fits.num fits.hub fits.port (is_in x.name.way);
}

-- ---- in memory

word_one : (m : Mem) (b : ℕ) → slice_index (words_at m (32 * b) 7) 1 ≡ word_at m (32 * b + 4)
unfolding words_in
word_one m b = refl

first_apart : (ws : List ℕ) (a : ℕ) → words_in ws a 16 ≡ slice_index ws (a / 4) ∷ words_in ws (a + 4) 15
unfolding words_in
first_apart ws a = refl

-- all words but the first are the same
pub itd_still : (m new : Mem) (b : ℕ) (x : EpDesc)
    → ((i : ℕ) → 1 ≤ i → i < 16 → word_at new (32 * b + 4 * i) ≡ word_at m (32 * b + 4 * i)) → TellsBy false m b x → TellsBy false new b x
itd_still m new b x same k =
    let rest : words_in new.words (32 * b + 4) 15 ≡ words_in m.words (32 * b + 4) 15 =
    words_in_same m.words new.words (32 * b + 4) 15
    (λ i below.
    let e : 32 * b + 4 * (i + 1) ≡ 32 * b + 4 + 4 * i = omega arith in
    subst (λ (a : ℕ). word_at new a ≡ word_at m a) e (same (i + 1) (omega arith) (omega (arith, below)))) in
    subst (λ (ws : List ℕ). ItdTells ws x) (sym (first_apart new.words (32 * b)))
    (subst (λ (ws : List ℕ). ItdTells (slice_index new.words (32 * b / 4) ∷ ws) x) (sym rest)
    (itd_linked (slice_index m.words (32 * b / 4)) (slice_index new.words (32 * b / 4)) (words_in m.words (32 * b + 4) 15) x
    (subst (λ (ws : List ℕ). ItdTells ws x) (first_apart m.words (32 * b)) k)))

pub sitd_still : (m new : Mem) (b : ℕ) (x : EpDesc)
    → ((i : ℕ) → 1 ≤ i → i < 7 → word_at new (32 * b + 4 * i) ≡ word_at m (32 * b + 4 * i)) → TellsBy true m b x → TellsBy true new b x
sitd_still m new b x same k =
    one_sitd _ x (subst (λ (v : ℕ). SitdTells (0 ∷ v ∷ []) x) (sym (same 1 (omega arith) (omega arith))) (sitd_one _ x k))

-- what stands in words is what is read
pub sitd_words_tell : (m : Mem) (b : ℕ) (x : EpDesc) → SitdTells (words_at m (32 * b) 7) x → TellsBy true m b x
sitd_words_tell m b x k =
    one_sitd _ x (subst (λ (v : ℕ). SitdTells (0 ∷ v ∷ []) x) (word_one m b) (sitd_one (words_at m (32 * b) 7) x k))

pub words_sitd_tell : (m : Mem) (b : ℕ) (x : EpDesc) → TellsBy true m b x → SitdTells (words_at m (32 * b) 7) x
words_sitd_tell m b x k =
    one_sitd (words_at m (32 * b) 7) x (subst (λ (v : ℕ). SitdTells (0 ∷ v ∷ []) x) (sym (word_one m b)) (sitd_one _ x k))
