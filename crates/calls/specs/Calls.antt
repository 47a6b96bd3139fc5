-- How a call is written: its byte, then its numbers, then its fields, four at most. The form is ours: `second/README.md`, "The calls".
use Rattle.std.specs.Prelude.{true, List, [], ◌∷◌, ◌++◌, ◌≡◌, ℕ, zero, suc, ◌*◌, ◌<◌, ◌≤◌, Some, get_or, length, take}
use Rattle.input.specs.Inputs.{TookSome, whole}
use Rattle.input.specs.declared.Reader.{Reader}
use Rattle.shapes.specs.Numbers.{eight_at, four_at}
use Rattle.shapes.specs.Shapes.{shape}
use Rattle.shapes.specs.declared.Shape.{Shape}
use Rattle.calls.specs.declared.Call.{Call}
use Rattle.calls.specs.declared.Fields.{Fields}

-- the bytes t are the first m of the numbers ns, eight bytes each
abbrev pub NumberBytes : ℕ → List ℕ → List ℕ → Type 0
NumberBytes m ns t = (length t ≡ 8 * m) × ((j : ℕ) → j < m → get_or ns j 0 ≡ eight_at t (8 * j))

-- the bytes t are the count n, in four bytes
abbrev pub CountBytes : ℕ → List ℕ → Type 0
CountBytes n t = (length t ≡ 4) × (n ≡ four_at t 0)

-- the bytes t are how many items of so many bytes x has, and then x
pub record ItemBytes (item : ℕ) (x t : List ℕ) : Type 0 where
  pub items : ℕ
  pub long : length x ≡ item * items
  pub count : List ℕ
  pub is_count : CountBytes items count
  pub same : t ≡ count ++ x

-- the bytes t are the field x; of a call that has no such field there are none
abbrev pub FieldBytes : ℕ → List ℕ → List ℕ → Type 0
FieldBytes zero x t = (x ≡ []) × (t ≡ [])
FieldBytes (suc item) x t = ItemBytes (suc item) x t

-- the bytes t are the byte k of a call of the shape s, and its numbers ns
pub record HeadBytes (s : Shape) (k : ℕ) (ns t : List ℕ) : Type 0 where
  pub known : shape k ≡ Some s
  pub numbers : List ℕ
  pub are_numbers : NumberBytes s.numbers ns numbers
  pub same : t ≡ k ∷ numbers

-- the bytes t are some of which P is true, and then some of which Q is true
pub record Then (P Q : List ℕ → Type 0) (t : List ℕ) : Type 0 where
  pub front : List ℕ
  pub back : List ℕ
  pub is_front : P front
  pub is_back : Q back
  pub same : t ≡ front ++ back

-- the bytes t are the fields xs, one behind the other; `sizes` says how many bytes an item of each has
abbrev pub FieldsBytes : List ℕ → List (List ℕ) → List ℕ → Type 0
FieldsBytes [] [] t = t ≡ []
FieldsBytes [] (x ∷ xs) t = ⊥
FieldsBytes (item ∷ sizes) [] t = ⊥
FieldsBytes (item ∷ sizes) (x ∷ xs) t = Then (FieldBytes item x) (FieldsBytes sizes xs) t

-- the bytes t are the call with the byte k, the numbers ns, and the fields xs; s is its shape
pub record CallBytes (k : ℕ) (ns : List ℕ) (xs : List (List ℕ)) (t : List ℕ) : Type 0 where
  pub s : Shape
  pub bytes : Then (HeadBytes s k ns) (FieldsBytes s.items xs) t

-- the fields of the call c, at the fronts of x, y, z and w
abbrev pub fields_of : Call → List ℕ → List ℕ → List ℕ → List ℕ → List (List ℕ)
fields_of c x y z w = take (get_or c.lengths 0 0) x ∷ take (get_or c.lengths 1 0) y ∷ take (get_or c.lengths 2 0) z ∷ take (get_or c.lengths 3 0) w ∷ []

-- each field of the call c lies in x, y, z or w
abbrev pub Inside : Call → List ℕ → List ℕ → List ℕ → List ℕ → Type 0
Inside c x y z w = (get_or c.lengths 0 0 ≤ length x) × (get_or c.lengths 1 0 ≤ length y) × (get_or c.lengths 2 0 ≤ length z) × (get_or c.lengths 3 0 ≤ length w)

-- the fields of the call c, where they went
abbrev pub read_fields : Call → Fields → List (List ℕ)
read_fields c f = fields_of c f.first.now f.second.now f.third.now f.fourth.now

-- the fields go to the same lent bytes, of which there are as many, whatever they hold
pub record SameBytes (f f' : Fields) : Type 0 where
  pub first : f'.first.ghost_name ≡ f.first.ghost_name
  pub second : f'.second.ghost_name ≡ f.second.ghost_name
  pub third : f'.third.ghost_name ≡ f.third.ghost_name
  pub fourth : f'.fourth.ghost_name ≡ f.fourth.ghost_name
  pub long : (length f'.first.now ≡ length f.first.now) × (length f'.second.now ≡ length f.second.now) × (length f'.third.now ≡ length f.third.now) × (length f'.fourth.now ≡ length f.fourth.now)

-- the call c was read of the reader r, which is r' now, and its fields are xs
pub record ReadCall (r : Reader) (c : Call) (r' : Reader) (xs : List (List ℕ)) : Type 0 where
  pub whole : whole r ≡ true
  pub bytes : TookSome (CallBytes c.byte c.numbers xs) r r'
