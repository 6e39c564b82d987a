-- The host of an address is a text.
use Rattle.std.proofs.Common.{◌≡◌, ◌<◌, ℕ, Bool, true, false, ◌&&◌, ◌||◌, ◌==◌, nat_le, nat_eq, cond, List, [], ◌∷◌, length, drop, Option, Some, None, refl, sym, ap, subst, ◌∙◌, arith}
use Rattle.std.specs.Prelude.{IsUtf8, codes}
use Rattle.std.specs.List.{starts_with, take_while}
use Rattle.std.specs.Str.{IsAscii}
use Rattle.std.proofs.lemmas.Str.{IsUtf8-from_ascii}
use Rattle.std.proofs.lemmas.Str.Ascii.{IsAscii-nil, IsAscii-cons}
use Rattle.std.proofs.lemmas.Bool.Decides.{nat_tests}
use Rattle.std.proofs.lemmas.List.Sums.{take_while-cons}
use Rattle.std.specs.Str.Parse.{digits_value}
use Rattle.side_base.specs.Decimal.{digits_at, after_digits}
use Rattle.resource_spec.specs.Url.{Address, address_of, behind_host, behind_scheme, host_at, is_host_byte, is_path, with_path, with_port}

byte_is_low : (byte : ℕ) → is_host_byte byte ≡ true → byte < 128
byte_is_low byte is = grind (arith, nat_tests, is)

host_step : (byte : ℕ) (bytes : List ℕ) (b : Bool) → is_host_byte byte ≡ b → IsAscii (take_while is_host_byte bytes) → IsAscii (cond b (byte ∷ take_while is_host_byte bytes) [])
host_step byte bytes true is rest = IsAscii-cons byte _ (byte_is_low byte is) rest
host_step byte bytes false is rest = IsAscii-nil

host_is_ascii : (text : List ℕ) → IsAscii (host_at text)
host_is_ascii [] = IsAscii-nil
host_is_ascii (byte ∷ bytes) = subst IsAscii (sym (take_while-cons is_host_byte byte bytes)) (host_step byte bytes (is_host_byte byte) refl (host_is_ascii bytes))

module _ (host : List ℕ) (address : Address) where
  path_keeps : (port : ℕ) (path : List ℕ) (b : Bool) → cond b (Some (record { host = host; port = port; path = path })) None ≡ Some address → address.host ≡ host
  path_keeps port path true is = sym (ap (λ (a : Address). a.host) (let same : record { host = host; port = port; path = path } ≡ address = cc in same))
  path_keeps port path false is = absurd (let bad : ⊥ = cc in bad)

  port_keeps : (port : ℕ) (path : List ℕ) (b : Bool) → cond b (with_path host port path) None ≡ Some address → address.host ≡ host
  port_keeps port path true is = path_keeps port path (is_path path) is
  port_keeps port path false is = absurd (let bad : ⊥ = cc in bad)

  byte_keeps : (byte : ℕ) (others : List ℕ) (port : ℕ) (path : List ℕ) (b : Bool) → cond b (with_port host port path) (with_path host 80 (byte ∷ others)) ≡ Some address → address.host ≡ host
  byte_keeps byte others port path true is = port_keeps port path (nat_le 1 port && nat_le port 65535) is
  byte_keeps byte others port path false is = path_keeps 80 (byte ∷ others) (is_path (byte ∷ others)) is

  behind_keeps : (text : List ℕ) → behind_host host text ≡ Some address → address.host ≡ host
  behind_keeps [] is = path_keeps 80 [] true is
  behind_keeps (byte ∷ others) is = byte_keeps byte others (digits_value 10 (digits_at others)) (after_digits others) (byte == 58) is

module _ (address : Address) where
  scheme_text : (text : List ℕ) (b : Bool) → cond b (behind_host (host_at text) (drop (length (host_at text)) text)) None ≡ Some address → IsUtf8 address.host
  scheme_text text true is = subst IsUtf8 (sym (behind_keeps (host_at text) address (drop (length (host_at text)) text) is)) (IsUtf8-from_ascii (host_at text) (host_is_ascii text))
  scheme_text text false is = absurd (let bad : ⊥ = cc in bad)

  url_text : (text : List ℕ) (b : Bool) → cond b (behind_scheme text) None ≡ Some address → IsUtf8 address.host
  url_text text true is = scheme_text text (nat_le 1 (length (host_at text)) && nat_le (length (host_at text)) 253) is
  url_text text false is = absurd (let bad : ⊥ = cc in bad)

  pub host_is_text : (text : List ℕ) → address_of text ≡ Some address → IsUtf8 address.host
  host_is_text text is = url_text (drop 7 text) (starts_with nat_eq text (codes "http://")) is
