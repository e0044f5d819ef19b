-- The lines of a message's head, and the bytes that they are made of.
-- RFC 2326, 4 (messages end their lines), 6.1 (request line), 7.1 (status line), 12 (header fields), 15.1 (tokens).
use Rattle.std.specs.Prelude.{◌≡◌, ℕ, ◌<◌, ◌⊎◌, Bool, true, false, not, ◌&&◌, ◌||◌, ◌==◌, nat_le, List, [], ◌∷◌, ◌++◌, length, codes}
use Rattle.std.specs.List.{list_any, AllByRecursion}
use Rattle.base_syntax.specs.Blanks.{is_blank, IsTrimOf}
use Rattle.base_syntax.specs.Numbers.{is_numeral}
use Rattle.rtsp_message.specs.declared.byte_class.ByteClass.{ByteClass}
use Rattle.rtsp_message.specs.declared.byte_class.ByteClass.TheVariants.{Token, Visible, Space, Blank, Value}
use Rattle.rtsp_message.specs.declared.headers.Header.{Header}
use Rattle.rtsp_message.specs.declared.peer.Peer.{Peer}
use Rattle.rtsp_message.specs.declared.peer.Peer.TheVariants.{Client, Server}

abbrev pub is_visible : ℕ → Bool
is_visible b = nat_le 33 b && nat_le b 126

-- the characters that no token has
abbrev pub separators : List ℕ
separators = codes "()<>@,;:\\\"/[]?={}"

-- what a class of bytes has
abbrev pub is_in : ByteClass → ℕ → Bool
is_in Token b = is_visible b && not (list_any (λ s. s == b) separators)
is_in Visible b = is_visible b
is_in Space b = b == 32
is_in Blank b = is_blank b
is_in Value b = b == 9 || (nat_le 32 b && nat_le b 126) || nat_le 128 b

-- each byte is of the class
abbrev pub Each : ByteClass → List ℕ → Type 0
Each class bytes = AllByRecursion (λ b. is_in class b ≡ true) bytes

-- one or more bytes of the class
abbrev pub OneOrMore : ByteClass → List ℕ → Type 0
OneOrMore class bytes = (0 < length bytes) × Each class bytes

-- the first byte, if there is one, is not of the class
abbrev pub BeginsOutside : ByteClass → List ℕ → Type 0
BeginsOutside class [] = Unit {0}
BeginsOutside class (b ∷ bs) = is_in class b ≡ false

-- Method, one or more spaces, URI, one or more spaces, version, and then blanks that don't count (RFC 2326, 6.1).
pub record IsRequestLine (line method uri version : List ℕ) : Type 0 where
  pub first_gap : List ℕ
  pub second_gap : List ℕ
  pub tail : List ℕ
  pub whole : line ≡ method ++ (first_gap ++ (uri ++ (second_gap ++ (version ++ tail))))
  pub method_bytes : OneOrMore Token method
  pub first_spaces : OneOrMore Space first_gap
  pub uri_bytes : OneOrMore Visible uri
  pub second_spaces : OneOrMore Space second_gap
  pub version_bytes : OneOrMore Visible version
  pub tail_blank : Each Blank tail

-- The version of a reply: `RTSP/1.` and a number (RFC 2326, 3.1).
abbrev pub IsVersion : List ℕ → Type 0
IsVersion version = (digits : List ℕ) × (version ≡ codes "RTSP/1." ++ digits) × (is_numeral digits ≡ true)

-- Version, one or more spaces, a status of three digits, and any text or none, whose blanks at its ends don't count (RFC 2326, 7.1).
pub record IsStatusLine (line version status reason : List ℕ) : Type 0 where
  pub gap : List ℕ
  pub text : List ℕ
  pub whole : line ≡ version ++ (gap ++ (status ++ text))
  pub version_is : IsVersion version
  pub spaces : OneOrMore Space gap
  pub three_digits : (length status ≡ 3) × (is_numeral status ≡ true)
  pub reason_is : IsTrimOf text reason

-- The start line of a message, in three parts. A client sends request lines; a server sends status lines too, whose version, status and
-- reason stand where a request line has method, URI and version.
abbrev pub IsStartLine : Peer → (line method uri version : List ℕ) → Type 0
IsStartLine Client line method uri version = IsRequestLine line method uri version
IsStartLine Server line method uri version = IsRequestLine line method uri version ⊎ IsStatusLine line method uri version

-- A name of token bytes, a colon, and a value with blanks round it that don't count (RFC 2326, 12; RFC 2068, 4.2).
pub record IsHeaderLine (line : List ℕ) (header : Header) : Type 0 where
  pub text : List ℕ
  pub whole : line ≡ header.name ++ 58 ∷ text
  pub name_bytes : OneOrMore Token header.name
  pub value : IsTrimOf text header.value
  pub value_bytes : Each Value header.value

-- Bytes as one or more of a class at the front, and what follows them.
pub record IsFrontRun (class : ByteClass) (bytes run rest : List ℕ) : Type 0 where
  pub whole : bytes ≡ run ++ rest
  pub run_bytes : OneOrMore class run
  pub stops : BeginsOutside class rest
