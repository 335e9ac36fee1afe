-- Trees as they are read: every place in one is within the program, and every fault in one has a number of the check: 1 to 13, 31, 33 or 35.
use mathlib.Core.List.{List, [], ◌∷◌, map}
use mathlib.Core.Path.{◌≡◌}
use mathlib.Core.Bool.{Bool, true, false, cond}
use Prim.Native.Nat.{ℕ, zero, suc, ◌+◌, ◌≤◌, ◌<◌, pred}
use native.Mathlib.Omega.{arith}
use lib.Dec.{leb}
use lib.ListN.{length, take, drop, length-take}
use Rattle.language.specs.Limits.{deepest}
use Rattle.language.specs.Tree.{Place, Ending, Number, Operation, sum, difference, product, Index, literal, variable, operation, bad_index, Operand, whole, element, slice, passed, bad_operand}
use Rattle.language.specs.Tree.{PlainType, qbit, qbits, bad_type, ParameterType, plain, family_type, Argument, index, operand, bad_argument, Gate, gate_h, gate_t, gate_tdg, Statement, Statements, gate, cx, phase, cphase, call, call_parameter, reverse, for, bad_statement, nil, cons}
use Rattle.language.specs.Tree.{Top, family, qreg, creg, measure, reset, if, statement, bad_top}
use Rattle.language.specs.Read
use Rattle.language.specs.Read.{Field, field, bad_header, Reader, of_fields, due, fields, fields_after, first_field, field_of, extent, two_bytes, CallNumber, names, unnamed, one_byte_number, two_byte_number, Calling, read_index, outer_index, read_operand, read_plain, read_type, read_argument, read_statement, outer_statement, statements_by, read_top, read, operand_due}
use Rattle.language.proofs.ReadLaws.{AllRows, choose_all, Begins, one_byte_begins, two_bytes_begin}

-- a refusal's number, and its place in a program of so many bytes
pub record Listed (size n p : ℕ) : Type 0 where
  pub from : 1 ≤ n
  pub known : 13 < n → (n ≡ 33 → ⊥) → (n ≡ 35 → ⊥) → n ≡ 31
  pub within : p ≤ size

abbrev pub AllOf : {A : Type 0} → (A → Type 0) → List A → Type 0
AllOf P [] = Unit {0}
AllOf P (x ∷ xs) = P x × AllOf P xs

pub drop_all : {A : Type 0} (P : A → Type 0) (n : ℕ) (xs : List A) → AllOf P xs → AllOf P (drop n xs)
drop_all P zero [] h = tt
drop_all P zero (x ∷ xs) h = h
drop_all P (suc n) [] h = tt
drop_all P (suc n) (x ∷ xs) h = drop_all P n xs h.1

module _ (size : ℕ) where
  -- ---- fields within the program

  abbrev Inside : Field → Type 0
  Inside (field p tag content) = p + 3 + length content ≤ size
  Inside (bad_header p) = p ≤ size

  field_inside : (p tag n : ℕ) (bytes : List ℕ) → p + 3 + length bytes ≤ size → (b : Bool) → Inside (cond b (field p tag (take n bytes)) (bad_header p))
  field_inside p tag n bytes h true = omega (arith, length-take n bytes)
  field_inside p tag n bytes h false = omega arith

  first_inside : (p tag : ℕ) (bytes : List ℕ) → p + 1 + length bytes ≤ size → Inside (first_field p tag bytes)
  unfolding first_field field_of
  first_inside p tag [] h = omega arith
  first_inside p tag (low ∷ []) h = omega arith
  first_inside p tag (low ∷ high ∷ bytes) h = field_inside p tag (two_bytes low high) bytes (omega arith) (leb (two_bytes low high) (length bytes))

  after_inside : (skip p : ℕ) (bytes : List ℕ) → p + length bytes ≤ size → AllOf Inside (fields_after skip p bytes)
  unfolding fields_after
  after_inside skip p [] h = tt
  after_inside (suc skip) p (byte ∷ bytes) h = after_inside skip (suc p) bytes (omega arith)
  after_inside zero p (tag ∷ bytes) h = (first_inside p tag bytes (omega arith), after_inside (extent (first_field p tag bytes) bytes) (suc p) bytes (omega arith))

  fields_inside : (p : ℕ) (bytes : List ℕ) → p + length bytes ≤ size → AllOf Inside (fields p bytes)
  fields_inside p bytes h = after_inside 0 p bytes h

  -- ---- trees whose faults have such numbers and places

  abbrev pub FairIndex : Index → Type 0
  FairIndex (literal p n) = p ≤ size
  FairIndex (variable p n e) = p ≤ size
  FairIndex (operation p o l r e) = (p ≤ size) × FairIndex l × FairIndex r
  FairIndex (bad_index n p) = Listed size n p

  abbrev pub FairOperand : Operand → Type 0
  FairOperand (whole p n e) = p ≤ size
  FairOperand (element p n i e) = (p ≤ size) × FairIndex i
  FairOperand (slice p n i j e) = (p ≤ size) × FairIndex i × FairIndex j
  FairOperand (passed p n e) = p ≤ size
  FairOperand (bad_operand n p) = Listed size n p

  abbrev pub FairPlain : PlainType → Type 0
  FairPlain (qbit p e) = p ≤ size
  FairPlain (qbits p i e) = (p ≤ size) × FairIndex i
  FairPlain (bad_type n p) = Listed size n p

  abbrev pub FairType : ParameterType → Type 0
  FairType (plain x) = FairPlain x
  FairType (family_type p v n types e) = (p ≤ size) × AllOf FairPlain types

  abbrev pub FairArgument : Argument → Type 0
  FairArgument (index p i) = (p ≤ size) × FairIndex i
  FairArgument (operand p o) = (p ≤ size) × FairOperand o
  FairArgument (bad_argument n p) = Listed size n p

  unfoldable mutual
    pub FairStatement : Statement → Type 0
    FairStatement (gate p g o e) = (p ≤ size) × FairOperand o
    FairStatement (cx p c o e) = (p ≤ size) × FairOperand c × FairOperand o
    FairStatement (phase p k o e) = (p ≤ size) × FairIndex k × FairOperand o
    FairStatement (cphase p k c o e) = (p ≤ size) × FairIndex k × FairOperand c × FairOperand o
    FairStatement (call p n more) = (p ≤ size) × AllOf FairArgument more
    FairStatement (call_parameter p n more) = (p ≤ size) × AllOf FairArgument more
    FairStatement (reverse p ss) = (p ≤ size) × FairStatements ss
    FairStatement (for p low high ss) = (p ≤ size) × FairIndex low × FairIndex high × FairStatements ss
    FairStatement (bad_statement n p) = Listed size n p

    pub FairStatements : Statements → Type 0
    FairStatements nil = Unit {0}
    FairStatements (cons x xs) = FairStatement x × FairStatements xs

  unfoldable pub FairTop : Top → Type 0
  FairTop (family p m n types body) = (p ≤ size) × AllOf FairType types × FairStatements body
  FairTop (qreg p n e) = p ≤ size
  FairTop (creg p n e) = p ≤ size
  FairTop (measure p w b e) = (p ≤ size) × FairOperand w × FairOperand b
  FairTop (reset p w e) = (p ≤ size) × FairOperand w
  FairTop (if p v b ss) = (p ≤ size) × FairOperand b × FairStatements ss
  FairTop (statement x) = FairStatement x
  FairTop (bad_top n p) = Listed size n p

  -- ---- reading gives such trees

  -- a part whose trees are fair
  FairPart : {A : Type 0} → (A → Type 0) → (Field → A) → Type 0
  FairPart P part = (f : Field) → Inside f → P (part f)

  due_fair : {A : Type 0} (P : A → Type 0) (part : Field → A) (absent : A) → FairPart P part → P absent → (fs : List Field) → AllOf Inside fs → P (due part absent fs)
  unfolding due FairPart
  due_fair P part absent h a [] k = a
  due_fair P part absent h a (f ∷ fs) k = h f k.0

  map_fair : {A : Type 0} (P : A → Type 0) (part : Field → A) → FairPart P part → (fs : List Field) → AllOf Inside fs → AllOf P (map part fs)
  unfolding FairPart
  map_fair P part h [] k = tt
  map_fair P part h (f ∷ fs) k = (h f k.0, map_fair P part h fs k.1)

  -- a reader whose trees are fair
  Fair : {A : Type 0} → (A → Type 0) → Reader A → Type 0
  Fair P r = (p : Place) (content : List ℕ) → p + 3 + length content ≤ size → P (r p content)

  cond_fair : {A : Type 0} (P : A → Type 0) (b : Bool) {x y : A} → P x → P y → P (cond b x y)
  cond_fair P true x y = x
  cond_fair P false x y = y

  literal_fair : Fair FairIndex Read.read_literal
  unfolding Fair Read.read_literal
  literal_fair p [] k = omega arith
  literal_fair p (a ∷ []) k = omega arith
  literal_fair p (a ∷ b ∷ []) k = omega arith
  literal_fair p (a ∷ b ∷ c ∷ rest) k = omega arith

  variable_fair : Fair FairIndex Read.read_variable
  unfolding Fair Read.read_variable
  variable_fair p [] k = omega arith
  variable_fair p (a ∷ rest) k = omega arith

  index_due_fair : (part : Field → Index) → FairPart FairIndex part → (p n from : ℕ) (content : List ℕ) → p ≤ size → from + length content ≤ size → FairIndex (due part (bad_index 4 p) (drop n (fields from content)))
  index_due_fair part h p n from content j k = due_fair FairIndex part (bad_index 4 p) h (omega arith) (drop n (fields from content)) (drop_all Inside n (fields from content) (fields_inside from content k))

  operation_fair : (part : Field → Index) → FairPart FairIndex part → (o : Operation) → Fair FairIndex (of_fields (Read.operation_of part o))
  unfolding Fair Read.operation_of
  operation_fair part h o p content k = (omega arith, index_due_fair part h p 0 (p + 3) content (omega arith) k, index_due_fair part h p 1 (p + 3) content (omega arith) k)

  index_by_fair : (part : Field → Index) → FairPart FairIndex part → FairPart FairIndex (Read.index_by part)
  unfolding Read.index_by AllRows Fair FairPart
  index_by_fair part h (bad_header p) k = omega arith
  index_by_fair part h (field p tag content) k = choose_all (Fair FairIndex) tag _ _
      (literal_fair, (variable_fair, (operation_fair part h sum, (operation_fair part h difference, (operation_fair part h product, tt))))) (λ q rest j. omega arith) p content k

  index_fair : (levels : ℕ) → FairPart FairIndex (read_index levels)
  unfolding read_index Read.deep_index FairPart
  index_fair zero (bad_header p) k = omega arith
  index_fair zero (field p tag content) k = cond_fair FairIndex (Read.is_index_tag tag) (omega arith) (omega arith)
  index_fair (suc levels) f k = index_by_fair (read_index levels) (index_fair levels) f k

  whole_fair : Fair FairOperand Read.read_whole
  unfolding Fair Read.read_whole
  whole_fair p [] k = omega arith
  whole_fair p (n ∷ rest) k = omega arith

  element_fair : Fair FairOperand Read.read_element
  unfolding Fair Read.read_element Read.element_of
  element_fair p [] k = omega arith
  element_fair p (n ∷ rest) k = (omega arith, index_due_fair outer_index (index_fair deepest) p 0 (p + 4) rest (omega arith) (omega arith))

  slice_fair : Fair FairOperand Read.read_slice
  unfolding Fair Read.read_slice Read.slice_of
  slice_fair p [] k = omega arith
  slice_fair p (n ∷ rest) k = (omega arith, index_due_fair outer_index (index_fair deepest) p 0 (p + 4) rest (omega arith) (omega arith), index_due_fair outer_index (index_fair deepest) p 1 (p + 4) rest (omega arith) (omega arith))

  passed_fair : Fair FairOperand Read.read_passed
  unfolding Fair Read.read_passed
  passed_fair p [] k = omega arith
  passed_fair p (low ∷ []) k = omega arith
  passed_fair p (low ∷ high ∷ rest) k = omega arith

  operand_fair : FairPart FairOperand read_operand
  unfolding read_operand AllRows Fair FairPart
  operand_fair (bad_header p) k = omega arith
  operand_fair (field p tag content) k = choose_all (Fair FairOperand) tag _ _ (whole_fair, (element_fair, (slice_fair, (passed_fair, tt)))) (λ q rest j. omega arith) p content k

  plain_fair : FairPart FairPlain read_plain
  unfolding read_plain AllRows Fair Read.read_qbit Read.qbits_of FairPart
  plain_fair (bad_header p) k = omega arith
  plain_fair (field p tag content) k = choose_all (Fair FairPlain) tag _ _ ((λ q rest j. omega arith), ((λ q rest j. (omega arith, index_due_fair outer_index (index_fair deepest) q 0 (q + 3) rest (omega arith) j)), tt)) (λ q rest j. omega arith) p content k

  parts_fair : {A : Type 0} (P : A → Type 0) (part : Field → A) (absent : A) → FairPart P part → P absent → (n : ℕ) (fs : List Field) → AllOf Inside fs → AllOf P (Read.parts_of part absent n fs)
  unfolding Read.parts_of
  parts_fair P part absent h a zero fs k = tt
  parts_fair P part absent h a (suc n) fs k = (due_fair P part absent h a fs k, parts_fair P part absent h a n (drop 1 fs) (drop_all Inside 1 fs k))

  family_type_fair : Fair FairType Read.read_family_type
  unfolding Fair Read.read_family_type Read.family_type_of
  family_type_fair p [] k = (omega arith, tt)
  family_type_fair p (v ∷ []) k = (omega arith, tt)
  family_type_fair p (v ∷ n ∷ rest) k = (omega arith, parts_fair FairPlain read_plain (bad_type 4 p) plain_fair (omega arith) n (fields (p + 5) rest) (fields_inside (p + 5) rest (omega arith)))

  type_fair : FairPart FairType read_type
  unfolding read_type AllRows Fair FairPart
  type_fair (bad_header p) k = omega arith
  type_fair (field p tag content) k = choose_all (Fair FairType) tag _ _ (family_type_fair, tt) (λ q rest j. plain_fair (field q tag rest) j) p content k

  argument_fair : FairPart FairArgument read_argument
  unfolding read_argument FairPart
  argument_fair (bad_header p) k = omega arith
  argument_fair (field p tag content) k = cond_fair FairArgument (Read.is_index_tag tag) (omega arith, index_fair deepest (field p tag content) k) (cond_fair FairArgument (Read.is_operand_tag tag) (omega arith, operand_fair (field p tag content) k) (omega arith))

  operand_due_fair : (p n from : ℕ) (content : List ℕ) → p ≤ size → from + length content ≤ size → FairOperand (operand_due p n (fields from content))
  operand_due_fair p n from content j k = due_fair FairOperand read_operand (bad_operand 4 p) operand_fair (omega arith) (drop n (fields from content)) (drop_all Inside n (fields from content) (fields_inside from content k))

  statements_fair : (part : Field → Statement) → FairPart FairStatement part → (fs : List Field) → AllOf Inside fs → FairStatements (statements_by part fs)
  unfolding statements_by FairStatement FairPart
  statements_fair part h [] k = tt
  statements_fair part h (f ∷ fs) k = (h f k.0, statements_fair part h fs k.1)

  rest_fair : (part : Field → Statement) → FairPart FairStatement part → (n from : ℕ) (content : List ℕ) → from + length content ≤ size → FairStatements (statements_by part (drop n (fields from content)))
  rest_fair part h n from content k = statements_fair part h (drop n (fields from content)) (drop_all Inside n (fields from content) (fields_inside from content k))

  -- a call of whatever number is fair where its arguments are
  FairCalling : Calling → Type 0
  FairCalling calling = (p : Place) (n : ℕ) (more : List Argument) → p ≤ size → AllOf FairArgument more → FairStatement (calling p n more)

  named_fair : FairCalling call
  unfolding FairCalling FairStatement
  named_fair p n more j k = (j, k)

  parameter_fair : FairCalling call_parameter
  unfolding FairCalling FairStatement
  parameter_fair p n more j k = (j, k)

  call_by_fair : (calling : Calling) → FairCalling calling → (p : Place) (content : List ℕ) (number : CallNumber) → p + 3 + length content ≤ size → Begins content number → FairStatement (Read.call_by calling p number)
  unfolding Read.call_by Read.call_of Begins FairCalling FairStatement
  call_by_fair calling h p content (names n width rest) k w =
      h p n _ (omega arith) (map_fair FairArgument read_argument argument_fair (fields (p + 3 + width) rest) (fields_inside (p + 3 + width) rest (omega (arith, w.long))))
  call_by_fair calling h p content (unnamed number) k w = record { from = w.from; known = λ past passed twice. w.known past; within = omega arith }

  call_fair : Fair FairStatement Read.read_call
  unfolding Fair
  call_fair p content k = call_by_fair call named_fair p content (one_byte_number content) k (one_byte_begins content)

  long_call_fair : Fair FairStatement Read.read_long_call
  unfolding Fair
  long_call_fair p content k = call_by_fair call named_fair p content (two_byte_number content) k (two_bytes_begin content)

  parameter_call_fair : Fair FairStatement Read.read_parameter_call
  unfolding Fair
  parameter_call_fair p content k = call_by_fair call_parameter parameter_fair p content (one_byte_number content) k (one_byte_begins content)

  gate_fair : (g : Gate) → Fair FairStatement (of_fields (Read.gate_of g))
  unfolding Fair FairStatement Read.gate_of
  gate_fair g q rest k = (omega arith, operand_due_fair q 0 (q + 3) rest (omega arith) k)

  cx_fair : Fair FairStatement (of_fields Read.cx_of)
  unfolding Fair FairStatement Read.cx_of
  cx_fair q rest k = (omega arith, operand_due_fair q 0 (q + 3) rest (omega arith) k, operand_due_fair q 1 (q + 3) rest (omega arith) k)

  phase_fair : Fair FairStatement (of_fields Read.phase_of)
  unfolding Fair FairStatement Read.phase_of
  phase_fair q rest k = (omega arith, index_due_fair outer_index (index_fair deepest) q 0 (q + 3) rest (omega arith) k, operand_due_fair q 1 (q + 3) rest (omega arith) k)

  cphase_fair : Fair FairStatement (of_fields Read.cphase_of)
  unfolding Fair FairStatement Read.cphase_of
  cphase_fair q rest k = (omega arith, index_due_fair outer_index (index_fair deepest) q 0 (q + 3) rest (omega arith) k, operand_due_fair q 1 (q + 3) rest (omega arith) k, operand_due_fair q 2 (q + 3) rest (omega arith) k)

  for_fair : (part : Field → Statement) → FairPart FairStatement part → Fair FairStatement (of_fields (Read.for_of part))
  unfolding Fair FairStatement Read.for_of
  for_fair part h q rest k =
      (omega arith, index_due_fair outer_index (index_fair deepest) q 0 (q + 3) rest (omega arith) k, index_due_fair outer_index (index_fair deepest) q 1 (q + 3) rest (omega arith) k, rest_fair part h 2 (q + 3) rest k)

  statement_by_fair : (part : Field → Statement) → FairPart FairStatement part → FairPart FairStatement (Read.statement_by part)
  unfolding Read.statement_by AllRows Fair FairStatement FairPart
  statement_by_fair part h (bad_header p) k = omega arith
  statement_by_fair part h (field p tag content) k = choose_all (Fair FairStatement) tag _ _
      (gate_fair gate_h, (gate_fair gate_t, (gate_fair gate_tdg, (cx_fair, (call_fair, ((λ q rest j. (omega arith, rest_fair part h 0 (q + 3) rest j)), (for_fair part h, (long_call_fair, (phase_fair, (cphase_fair, (parameter_call_fair, tt)))))))))))
      (λ q rest j. omega arith) p content k

  statement_fair : (levels : ℕ) → FairPart FairStatement (read_statement levels)
  unfolding read_statement Read.deep_statement FairStatement FairPart
  statement_fair zero (bad_header p) k = omega arith
  statement_fair zero (field p tag content) k = cond_fair FairStatement (Read.is_statement_tag tag) (omega arith) (omega arith)
  statement_fair (suc levels) f k = statement_by_fair (read_statement levels) (statement_fair levels) f k

  family_fair : Fair FairTop Read.read_family
  unfolding Fair Read.read_family Read.family_of FairTop FairStatement
  family_fair p [] k = (omega arith, tt, tt)
  family_fair p (m ∷ []) k = (omega arith, tt, tt)
  family_fair p (m ∷ n ∷ rest) k = (omega arith, parts_fair FairType read_type (plain (bad_type 4 p)) type_fair (omega arith) n (fields (p + 5) rest) (fields_inside (p + 5) rest (omega arith)), rest_fair outer_statement (statement_fair deepest) n (p + 5) rest (omega arith))

  register_fair : (make : Place → Number → Ending → Top) → ((p : Place) (n : Number) (e : Ending) → p ≤ size → FairTop (make p n e)) → Fair FairTop (Read.read_register make)
  unfolding Fair Read.read_register
  register_fair make h p [] k = h p _ _ (omega arith)
  register_fair make h p (low ∷ []) k = h p _ _ (omega arith)
  register_fair make h p (low ∷ high ∷ rest) k = h p _ _ (omega arith)

  if_fair : Fair FairTop Read.read_if
  unfolding Fair Read.read_if Read.if_of FairTop
  if_fair p [] k = omega arith
  if_fair p (v ∷ rest) k = (omega arith, operand_due_fair p 0 (p + 4) rest (omega arith) (omega arith), rest_fair (read_statement (pred deepest)) (statement_fair (pred deepest)) 1 (p + 4) rest (omega arith))

  measure_fair : Fair FairTop (of_fields Read.measure_of)
  unfolding Fair FairTop Read.measure_of
  measure_fair q rest k = (omega arith, operand_due_fair q 0 (q + 3) rest (omega arith) k, operand_due_fair q 1 (q + 3) rest (omega arith) k)

  reset_fair : Fair FairTop (of_fields Read.reset_of)
  unfolding Fair FairTop Read.reset_of
  reset_fair q rest k = (omega arith, operand_due_fair q 0 (q + 3) rest (omega arith) k)

  top_fair : FairPart FairTop read_top
  unfolding read_top AllRows Fair FairTop FairPart
  top_fair (bad_header p) k = omega arith
  top_fair (field p tag content) k = choose_all (Fair FairTop) tag _ _
      (family_fair, (register_fair qreg (λ p n e h. h), (register_fair creg (λ p n e h. h), (measure_fair, (reset_fair, (if_fair, tt))))))
      (λ q rest j. statement_fair deepest (field q tag rest) j) p content k

-- every place in a program's tree is within the program
pub tops_fair : (program : List ℕ) → AllOf (FairTop (length program)) (read program)
unfolding read
tops_fair program = let n = length program in map_fair n (FairTop n) read_top (top_fair n) (fields 0 program) (fields_inside n 0 program (omega arith))
