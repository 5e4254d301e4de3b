-- A line decoded a character at a time. Assumes nothing.
use Rattle.std.proofs.Common.{◌≡◌, ℕ, ◌+◌, ◌-◌, ◌*◌, ◌<◌, ◌≤◌, ◌⊎◌, inl, inr, List, [], ◌∷◌, ◌++◌, length, get_or, drop, Some, None, Ok, Err, Option, Result, sym, refl, ap, ◌∙◌, arith}
use Rattle.std.proofs.lemmas.Bool.Decides.{nat_tests}
use Rattle.std.proofs.lemmas.List.{append_assoc, append-nil, drop_more, drop_all}
use Rattle.capture.specs.declared.hex.HexFault.{HexFault}
use Rattle.capture.specs.declared.hex.HexFault.TheVariants.{NotHex, HalfByte}
use Rattle.capture.specs.declared.hex.Kind.{Kind}
use Rattle.capture.specs.declared.hex.Kind.TheVariants.{Digit, Blank, Comment, Other}
use Rattle.capture.specs.Hex.{kind_of, with_byte, first, second, decoded, line_decoded}

-- bytes that were decoded before
abbrev pub behind : List ℕ → Result (List ℕ) HexFault → Result (List ℕ) HexFault
behind bs (Ok more) = Ok (bs ++ more)
behind bs (Err f) = Err f

-- a waiting digit is a digit
abbrev pub Small : Option ℕ → Type 0
Small None = Unit {0}
Small (Some x) = x < 16

-- what is left of the line after i characters, with what waits
abbrev pub Left : List ℕ → ℕ → Option ℕ → List ℕ → Type 0
Left line i high bytes = line_decoded line ≡ behind bytes (decoded (i + 1) high (drop i line))

behind_more : (bs : List ℕ) (b : ℕ) (r : Result (List ℕ) HexFault) → behind bs (with_byte b r) ≡ behind (bs ++ b ∷ []) r
behind_more bs b (Ok more) = ap Ok (sym (append_assoc bs (b ∷ []) more))
behind_more bs b (Err f) = refl

none_or_some : (o : Option ℕ) → (o ≡ None) ⊎ ((x : ℕ) × (o ≡ Some x))
none_or_some None = inl refl
none_or_some (Some x) = inr (x, refl)

-- a digit is below 16
pub digit_small : (c x : ℕ) → kind_of c ≡ Digit x → x < 16
digit_small c x h = grind (arith, nat_tests)

-- One character more, by its kind k and by what waits.
module _ (line : List ℕ) (i : ℕ) (bytes : List ℕ) (inside : i < length line) (high : Option ℕ) (left : Left line i high bytes) (k : Kind) (kind : k ≡ kind_of (get_or line i 0)) where
  abbrev c : ℕ
  c = get_or line i 0

  abbrev rest : Option ℕ → Result (List ℕ) HexFault
  rest waiting = decoded (i + 1 + 1) waiting (drop (i + 1) line)

  -- the character stands in front of what is left
  here : (waiting : Option ℕ) → high ≡ waiting → line_decoded line ≡ behind bytes (decoded (i + 1) waiting (c ∷ drop (i + 1) line))
  here waiting same =
      left ∙ ap (λ (l : List ℕ). behind bytes (decoded (i + 1) high l)) (drop_more line i 0 inside)
      ∙ ap (λ (h : Option ℕ). behind bytes (decoded (i + 1) h (c ∷ drop (i + 1) line))) same

  by_first : (m : Kind) → k ≡ m → high ≡ None → line_decoded line ≡ behind bytes (first m (i + 1) c (λ x. rest (Some x)) (rest None))
  unfolding decoded
  by_first m is none =
      here None none ∙ ap (λ (n : Kind). behind bytes (first n (i + 1) c (λ x. rest (Some x)) (rest None))) (sym kind ∙ is)

  by_second : (x : ℕ) (m : Kind) → k ≡ m → high ≡ Some x → line_decoded line ≡ behind bytes (second m (i + 1) c x (rest None))
  unfolding decoded
  by_second x m is some =
      here (Some x) some ∙ ap (λ (n : Kind). behind bytes (second n (i + 1) c x (rest None))) (sym kind ∙ is)

  pub waits : (x : ℕ) → k ≡ Digit x → high ≡ None → Left line (i + 1) (Some x) bytes × Small (Some x)
  waits x is none = (by_first (Digit x) is none, digit_small c x (sym kind ∙ is))

  pub joins : (x y : ℕ) → k ≡ Digit y → high ≡ Some x → Left line (i + 1) None (bytes ++ (16 * x + y) ∷ [])
  joins x y is some = by_second x (Digit y) is some ∙ behind_more bytes (16 * x + y) (rest None)

  pub skips : k ≡ Blank → high ≡ None → Left line (i + 1) high bytes
  skips is none = by_first Blank is none ∙ ap (λ (h : Option ℕ). behind bytes (rest h)) (sym none)

  pub ends : k ≡ Comment → high ≡ None → line_decoded line ≡ Ok bytes
  ends is none = by_first Comment is none ∙ ap Ok (append-nil bytes)

  half : (x : ℕ) (m : Kind) → k ≡ m → second m (i + 1) c x (rest None) ≡ Err (HalfByte (i + 1 - 1)) → high ≡ Some x → line_decoded line ≡ Err (HalfByte i)
  half x m is told some =
      let column : i + 1 - 1 ≡ i = omega arith in
      by_second x m is some ∙ ap (behind bytes) told ∙ ap (λ (j : ℕ). Err (HalfByte j)) column

  pub halves : (x : ℕ) → (k ≡ Blank) ⊎ (k ≡ Comment) → high ≡ Some x → line_decoded line ≡ Err (HalfByte i)
  halves x (inl is) some = half x Blank is refl some
  halves x (inr is) some = half x Comment is refl some

  pub wrong : k ≡ Other → line_decoded line ≡ Err (NotHex (i + 1) c)
  wrong is =
      elim (none_or_some high) [
        | inl none ↦ by_first Other is none
        | inr some ↦ by_second some.0 Other is some.1
      ]

-- the end of the line
module _ (line bytes : List ℕ) (i : ℕ) (past : length line ≤ i) (high : Option ℕ) (left : Left line i high bytes) where
  nothing_left : (waiting : Option ℕ) → high ≡ waiting → line_decoded line ≡ behind bytes (decoded (i + 1) waiting [])
  nothing_left waiting same =
      left ∙ ap (λ (l : List ℕ). behind bytes (decoded (i + 1) high l)) (drop_all i line past)
      ∙ ap (λ (h : Option ℕ). behind bytes (decoded (i + 1) h [])) same

  pub all : high ≡ None → line_decoded line ≡ Ok bytes
  unfolding decoded
  all none = nothing_left None none ∙ ap Ok (append-nil bytes)

  pub all_but_half : (x : ℕ) → high ≡ Some x → i ≡ length line → line_decoded line ≡ Err (HalfByte (length line))
  unfolding decoded
  all_but_half x some end =
      let column : i + 1 - 1 ≡ length line = omega arith in
      nothing_left (Some x) some ∙ ap (λ (j : ℕ). Err (HalfByte j)) column
