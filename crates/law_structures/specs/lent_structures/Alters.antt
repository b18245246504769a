-- What the controller may alter of the structures of one queue head (EHCI 1.0, 4.10): the bytes of buffers, and of a qTD its token, which isn't
-- active any more.
--     IsAfter t u              the qTD u is t, or t with another token, which isn't active
--     Alters part now          each qTD and each buffer is as it was but for that, and there are no new ones
use Rattle.std.specs.Prelude.{◌≡◌, ℕ, true, List, length, Some}
use Rattle.qh_qtd.specs.declared.qtd.Qtd.{Qtd}
use Rattle.qh_qtd.specs.declared.token.Token.{Token}
use Rattle.law_structures.specs.lent_structures.Structures.{Element, Buffer, Structures}

pub record IsAfter (t u : Qtd) : Type 0 where
  pub token : Token
  pub is : u ≡ record t { token = token }
  pub active : token.active ≡ true → token ≡ t.token

pub record HasElementAfter (part : Structures) (a : ℕ) (t : Qtd) : Type 0 where
  pub qtd : Qtd
  pub here : part a ≡ Some (Element qtd)
  pub after : IsAfter t qtd

pub record HadElement (part : Structures) (a : ℕ) (u : Qtd) : Type 0 where
  pub qtd : Qtd
  pub here : part a ≡ Some (Element qtd)
  pub after : IsAfter qtd u

-- a buffer with these pages and this start, and as many bytes
pub record HasBytes (part : Structures) (a : ℕ) (pages : List ℕ) (k : ℕ) (n : ℕ) : Type 0 where
  pub bytes : List ℕ
  pub here : part a ≡ Some (Buffer pages k bytes)
  pub size : length bytes ≡ n

pub record Alters (part now : Structures) : Type 0 where
  pub element : (a : ℕ) (t : Qtd) → part a ≡ Some (Element t) → HasElementAfter now a t
  pub element_before : (a : ℕ) (u : Qtd) → now a ≡ Some (Element u) → HadElement part a u
  pub buffer : (a : ℕ) (pages : List ℕ) (k : ℕ) (bs : List ℕ) → part a ≡ Some (Buffer pages k bs) → HasBytes now a pages k (length bs)
  pub buffer_before : (a : ℕ) (pages : List ℕ) (k : ℕ) (bs : List ℕ) → now a ≡ Some (Buffer pages k bs) → HasBytes part a pages k (length bs)
