-- Sections that are read one after the other, each where the one before it ends, are what the file's definition reads.
-- Assumes nothing.
use Prim.Native.Nat.{ℕ, ◌≤◌}
use mathlib.Core.Path.{◌≡◌, refl, sym, ◌∙◌, ap}
use mathlib.Core.Bool.{Bool, true, false}
use mathlib.Core.List.{List}
use native.Mathlib.Omega.{arith}
use lib.Dec.{eqb, ltb}
use lib.ListN.{length}
use denote.Ref.{Bor}
use Rattle.std.specs.Prelude.{⊤, Result, Ok, Err, IsErrAnd}
use Rattle.sets.specs.Tests.{pick}
use Rattle.order.specs.declared.Order.{Order}
use Rattle.policy.specs.declared.Members.{Members}
use Rattle.policy.specs.declared.People.{People}
use Rattle.policy.specs.declared.Table.{Table}
use Rattle.policy.specs.declared.Ranges.{Ranges}
use Rattle.policy.specs.declared.Policy.{Policy}
use Rattle.number.specs.declared.NumberError.{NumberError}
use Rattle.number.specs.Number.{Value, Refused, number_of, place_of, as_num}
use Rattle.number.specs.Run.{Step, go, stop, as_step, on_step}
use Rattle.sections.specs.Sections.{all_below, order_at, people_at, members_at}
use Rattle.rows.specs.Rows.{table_at, ranges_at}
use Rattle.rows.proofs.Right.{ranges_right}
use Rattle.faults.specs.Faults.{fault}
use Rattle.reader.specs.Standing.{standing, up_to, StaysOn}
use Rattle.reader.specs.declared.Reader.{Reader}
use Rattle.reading.specs.declared.FileError.{FileError}
use Rattle.reading.specs.declared.FileError.TheVariants.{Number}
use Rattle.reading.specs.declared.File.{File}
use Rattle.reading.specs.File.{one_at, Front, front, front_at, places, Rest, rest, rest_at, file, judge, file_at, How, as_how}
use Rattle.reading.specs.File as how
use Rattle.reading.specs.Joined.{front_of, FrontGiven, RestGiven, judgement, FileGiven}
use Rattle.reading.proofs.Laws.{all_roles, all_admins}
use Rattle.reading.proofs.Right.{rest_steps}

-- what is read of the same bytes
pub read_on : {A : Type 0} (f : List ℕ → A) {s t : Bor (List ℕ)} {w : A} → s ≡ t → w ≡ f s.now → f t.now ≡ w
read_on f e q = rw (← e) (sym q)

-- an order of the numbers there are, as the code has them
module _ {s t : Bor (List ℕ)} (at : ℕ) {w : Step Order} (e : s ≡ t) where
  pub roles_on : w ≡ order_at s.now 0xFFFFFFFFFFFFFFFF at → order_at t.now (all_below 64) at ≡ w
  roles_on q = rw all_roles (read_on (λ l. order_at l 0xFFFFFFFFFFFFFFFF at) e q)

  pub admins_on : w ≡ order_at s.now 0xFFFF at → order_at t.now (all_below 16) at ≡ w
  admins_on q = rw all_admins (read_on (λ l. order_at l 0xFFFF at) e q)

-- a refusal that is handed on
pub front_stops : {w : Step Front} (b : Bor (List ℕ)) (p : Policy) (r : Result Reader NumberError) (e : NumberError) → IsErrAnd r (λ f. f ≡ e)
    → w ≡ stop (number_of e) (place_of e) → FrontGiven w b r p
front_stops b p (Ok x) e h q = absurd h
front_stops b p (Err f) e h q = rw h q

pub rest_stops : {w : Step Rest} (f : Front) (x : File) (r : Result ℕ NumberError) (e : NumberError) → IsErrAnd r (λ g. g ≡ e)
    → w ≡ stop (number_of e) (place_of e) → RestGiven w f r x
rest_stops f x (Ok y) e h q = absurd h
rest_stops f x (Err g) e h q = rw h q

-- ---- a section's answer

-- what is answered is this refusal
abbrev pub Fails : {T E : Type 0} → Result T E → E → Type 0
Fails z n = IsErrAnd z (λ f. f ≡ n)

-- what follows it: its refusal, or what is read from where it ends
abbrev pub Follows : {A P : Type 0} → Result (A × P) NumberError → (NumberError → Type 0) → (A → P → Type 0) → Type 0
Follows (Ok x) refused next = next x.0 x.1
Follows (Err e) refused next = refused e

-- a section that is read from a place
pub record ReadAt {A : Type 0} (w : Step A) (refused : NumberError → Type 0) (next : A → ℕ → Type 0) : Type 0 where
  pub answer : Result (A × ℕ) NumberError
  pub read : as_step answer ≡ w
  pub then : Follows answer refused next

-- a section that is read by a reader: what its method promises of the answer
pub record ReadBy {A : Type 0} (r : Reader) (w : List ℕ → ℕ → Step A) (refused : NumberError → Type 0) (next : A → Reader → Type 0) : Type 0 where
  pub answer : Result (A × Reader) NumberError
  pub read : as_step (up_to answer) ≡ w r.bytes.now r.at
  pub stays : StaysOn r.bytes answer
  pub then : Follows answer refused next

-- it is refused, or it is there
pub either : {A : Type 0} {w : Step A} {refused : NumberError → Type 0} {next : A → ℕ → Type 0} {G : Type 0} → ReadAt w refused next
    → ((n : NumberError) → stop (number_of n) (place_of n) ≡ w → refused n → G) → ((y : A) (b : ℕ) → go b y ≡ w → next y b → G) → G
either {A} {w} {refused} {next} {G} k ended read = by k.answer k.read k.then
  where
    by : (x : Result (A × ℕ) NumberError) → as_step x ≡ w → Follows x refused next → G
    by (Ok x) e h = read x.0 x.1 e h
    by (Err n) e h = ended n e h

module _ {A : Type 0} {r : Reader} {w : List ℕ → ℕ → Step A} {refused : NumberError → Type 0} {next : A → Reader → Type 0} where
  -- it is there
  pub goes : {y : A} {b : Reader} → go b.at y ≡ w r.bytes.now r.at → b.bytes ≡ r.bytes → next y b → ReadBy r w refused next
  goes {y} {b} e on k = record { answer = Ok (y, b); read = e; stays = on; then = k }

  -- it is refused, and nothing follows
  pub stops : (n : NumberError) → stop (number_of n) (place_of n) ≡ w r.bytes.now r.at → refused n → ReadBy r w refused next
  stops n e k = record { answer = Err n; read = e; stays = tt; then = k }

  -- what a reader reads stands at its place
  pub at_place : {s : Bor (List ℕ)} {then : A → ℕ → Type 0} → r.bytes ≡ s → ReadBy r w refused next
      → ((y : A) (b : Reader) → b.bytes ≡ s → next y b → then y b.at) → ReadAt (w s.now r.at) refused then
  at_place {s} {then} on k f =
      record { answer = up_to k.answer; read = k.read ∙ ap (λ (t : Bor (List ℕ)). w t.now r.at) on; then = by k.answer k.stays k.then }
    where
      by : (x : Result (A × Reader) NumberError) → StaysOn r.bytes x → Follows x refused next → Follows (up_to x) refused then
      by (Ok x) stays h = f x.0 x.1 (stays ∙ on) h
      by (Err n) stays h = h

-- ---- before the tables: the first that is refused is the front's refusal
module _ (s : List ℕ) (at : ℕ) where
  pub no_one : {c p : ℕ} → one_at s at ≡ Refused c p → front_at s at ≡ stop c p
  unfolding front_at
  no_one k = rw k

  module _ {x a : ℕ} (one : one_at s at ≡ Value x a) where
    pub no_roles : {c p : ℕ} → order_at s (all_below 64) a ≡ stop c p → front_at s at ≡ stop c p
    unfolding front_at
    no_roles k = rw (one, k)

    module _ {b : ℕ} {o : Order} (roles : order_at s (all_below 64) a ≡ go b o) where
      pub no_admins : {c p : ℕ} → order_at s (all_below 16) b ≡ stop c p → front_at s at ≡ stop c p
      unfolding front_at
      no_admins k = rw (one, roles, k)

      module _ {d : ℕ} {q : Order} (admins : order_at s (all_below 16) b ≡ go d q) where
        pub no_people : {c p : ℕ} → people_at s o.used q.used d ≡ stop c p → front_at s at ≡ stop c p
        unfolding front_at
        no_people k = rw (one, roles, admins, k)

        module _ {e : ℕ} {u : People} (people : people_at s o.used q.used d ≡ go e u) where
          pub no_permissions : {c p : ℕ} → members_at s o.used e ≡ stop c p → front_at s at ≡ stop c p
          unfolding front_at
          no_permissions k = rw (one, roles, admins, people, k)

          pub front_read : {g : ℕ} {m : Members} → members_at s o.used e ≡ go g m → front_at s at ≡ go g (front o q u m)
          unfolding front_at
          front_read k = rw (one, roles, admins, people, k)

-- a reader past a section stands on the same bytes: from section to section, to the tables, where all are read
module _ (r : Reader) {a b d e g : Reader} {x : ℕ} {o q : Order} {u : People} {m : Members} where
  pub front_went : one_at r.bytes.now r.at ≡ Value x a.at → a.bytes ≡ r.bytes
      → go b.at o ≡ order_at a.bytes.now 0xFFFFFFFFFFFFFFFF a.at → b.bytes ≡ a.bytes
      → go d.at q ≡ order_at b.bytes.now 0xFFFF b.at → d.bytes ≡ b.bytes
      → go e.at u ≡ people_at d.bytes.now o.used q.used d.at → e.bytes ≡ d.bytes
      → go g.at m ≡ members_at e.bytes.now o.used e.at → g.bytes ≡ e.bytes
      → (front_at r.bytes.now r.at ≡ go g.at (front o q u m)) × (g.bytes ≡ r.bytes)
  front_went one on_a roles on_b admins on_d people on_e permissions on_g =
      let b_on = on_b ∙ on_a in
      let d_on = on_d ∙ b_on in
      let e_on = on_e ∙ d_on in (
        front_read r.bytes.now r.at one (roles_on a.at on_a roles) (admins_on b.at b_on admins)
            (read_on (λ s. people_at s o.used q.used d.at) d_on people)
            (read_on (λ s. members_at s o.used e.at) e_on permissions),
        on_g ∙ e_on,
      )

-- in every case: z is what is answered, and p what was read into
module _ (z : Result Reader NumberError) (p : Policy) where
  -- the sections past the first number, each from where the one before it ends; of the first that is refused nothing follows
  abbrev pub FrontAt : Bor (List ℕ) → ℕ → Type 0
  FrontAt s a =
      ReadAt (order_at s.now 0xFFFFFFFFFFFFFFFF a) (Fails z) (λ o b.
      ReadAt (order_at s.now 0xFFFF b) (Fails z) (λ q d.
      ReadAt (people_at s.now o.used q.used d) (Fails z) (λ u e.
      ReadAt (members_at s.now o.used e) (Fails z) (λ m g.
      (z ≡ Ok (standing s g)) × (front_of p ≡ front o q u m)))))

  abbrev pub FrontBy : Reader → Type 0
  FrontBy a =
      ReadBy a (λ s. order_at s 0xFFFFFFFFFFFFFFFF) (Fails z) (λ o b.
      ReadBy b (λ s. order_at s 0xFFFF) (Fails z) (λ q d.
      ReadBy d (λ s. people_at s o.used q.used) (Fails z) (λ u e.
      ReadBy e (λ s. members_at s o.used) (Fails z) (λ m g.
      (z ≡ Ok g) × (front_of p ≡ front o q u m)))))

  -- what is answered of them all
  module _ (s : Bor (List ℕ)) (at : ℕ) where
    pub front_joined : (one : Result (ℕ × ℕ) NumberError) → as_num one ≡ one_at s.now at
        → Follows one (Fails z) (λ x. FrontAt s) → FrontGiven (front_at s.now at) s z p
    front_joined (Err n) e k = front_stops s p z n k (no_one s.now at (sym e))
    front_joined (Ok x) e k =
        let one = sym e in
        either k (λ n h q. front_stops s p z n q (no_roles s.now at one (roles_on {s = s} x.1 refl h))) (λ o b h k.
        let roles = roles_on {s = s} x.1 refl h in
        either k (λ n h q. front_stops s p z n q (no_admins s.now at one roles (admins_on {s = s} b refl h))) (λ a d h k.
        let admins = admins_on {s = s} b refl h in
        either k (λ n h q. front_stops s p z n q (no_people s.now at one roles admins (sym h))) (λ u e people k.
        either k (λ n h q. front_stops s p z n q (no_permissions s.now at one roles admins (sym people) (sym h))) (λ m g h k.
        rw k.0 (front_read s.now at one roles admins (sym people) (sym h) ∙ ap (go g) (sym k.1), refl)))))

  -- the same of readers
  pub front_passed : (r : Reader) (one : Result (ℕ × Reader) NumberError) → as_num (up_to one) ≡ one_at r.bytes.now r.at → StaysOn r.bytes one
      → Follows one (Fails z) (λ x. FrontBy) → FrontGiven (front_at r.bytes.now r.at) r.bytes z p
  front_passed r (Err n) e on k = front_joined r.bytes r.at (Err n) e k
  front_passed r (Ok x) e on k =
      front_joined r.bytes r.at (Ok (x.0, x.1.at)) e
      (at_place on k (λ o b on k. at_place on k (λ q d on k. at_place on k (λ u e on k. at_place on k (λ m g on k.
      (k.0 ∙ ap (λ (s : Bor (List ℕ)). Ok (standing s g.at)) on, k.1))))))

-- ---- the tables
module _ (s : List ℕ) (roles admins a : ℕ) where
  pub no_assign : {c p : ℕ} → table_at s true roles admins a ≡ stop c p → rest_at s roles admins a ≡ stop c p
  unfolding rest_at
  no_assign k = rw k

  module _ {b : ℕ} {t : Table} (assign : table_at s true roles admins a ≡ go b t) where
    pub no_revoke : {c p : ℕ} → table_at s false roles admins b ≡ stop c p → rest_at s roles admins a ≡ stop c p
    unfolding rest_at
    no_revoke k = rw (assign, k)

    module _ {d : ℕ} {u : Table} (revoke : table_at s false roles admins b ≡ go d u) where
      pub no_assignp : {c p : ℕ} → table_at s true roles admins d ≡ stop c p → rest_at s roles admins a ≡ stop c p
      unfolding rest_at
      no_assignp k = rw (assign, revoke, k)

      module _ {e : ℕ} {v : Table} (assignp : table_at s true roles admins d ≡ go e v) where
        pub no_revokep : {c p : ℕ} → table_at s false roles admins e ≡ stop c p → rest_at s roles admins a ≡ stop c p
        unfolding rest_at
        no_revokep k = rw (assign, revoke, assignp, k)

        module _ {g : ℕ} {w : Table} (revokep : table_at s false roles admins e ≡ go g w) where
          pub no_modify : {c p : ℕ} → ranges_at s roles admins g ≡ stop c p → rest_at s roles admins a ≡ stop c p
          unfolding rest_at
          no_modify k = rw (assign, revoke, assignp, revokep, k)

          pub rest_read : {end : ℕ} {m : Ranges} → ranges_at s roles admins g ≡ go end m
              → rest_at s roles admins a ≡ go end (rest t u v w m (places a b d e g end))
          unfolding rest_at
          rest_read k = rw (assign, revoke, assignp, revokep, k)

-- the same from table to table
module _ (a : Reader) (roles admins : ℕ) {b d e g : Reader} {end : ℕ} {t u v w : Table} {m : Ranges} where
  pub rest_went : go b.at t ≡ table_at a.bytes.now true roles admins a.at → b.bytes ≡ a.bytes
      → go d.at u ≡ table_at b.bytes.now false roles admins b.at → d.bytes ≡ b.bytes
      → go e.at v ≡ table_at d.bytes.now true roles admins d.at → e.bytes ≡ d.bytes
      → go g.at w ≡ table_at e.bytes.now false roles admins e.at → g.bytes ≡ e.bytes
      → go end m ≡ ranges_at g.bytes.now roles admins g.at
      → rest_at a.bytes.now roles admins a.at ≡ go end (rest t u v w m (places a.at b.at d.at e.at g.at end))
  rest_went assign on_b revoke on_d assignp on_e revokep on_g modify =
      let d_on = on_d ∙ on_b in
      let e_on = on_e ∙ d_on in
      let g_on = on_g ∙ e_on in
      rest_read a.bytes.now roles admins a.at (sym assign)
      (read_on (λ s. table_at s false roles admins b.at) on_b revoke)
      (read_on (λ s. table_at s true roles admins d.at) d_on assignp)
      (read_on (λ s. table_at s false roles admins e.at) e_on revokep)
      (read_on (λ s. ranges_at s roles admins g.at) g_on modify)

-- in every case: the tables, each from where the one before it ends; of the first that is refused nothing follows
module _ (roles admins : ℕ) (refused : NumberError → Type 0) where
  abbrev pub TablesAt : List ℕ → ℕ → (ℕ → Rest → Type 0) → Type 0
  TablesAt s a all =
      ReadAt (table_at s true roles admins a) refused (λ t b.
      ReadAt (table_at s false roles admins b) refused (λ u d.
      ReadAt (table_at s true roles admins d) refused (λ v e.
      ReadAt (table_at s false roles admins e) refused (λ w g.
      ReadAt (ranges_at s roles admins g) refused (λ m end. all end (rest t u v w m (places a b d e g end)))))))

  abbrev pub TablesBy : Reader → (Reader → Rest → Type 0) → Type 0
  TablesBy a all =
      ReadBy a (λ s. table_at s true roles admins) refused (λ t b.
      ReadBy b (λ s. table_at s false roles admins) refused (λ u d.
      ReadBy d (λ s. table_at s true roles admins) refused (λ v e.
      ReadBy e (λ s. table_at s false roles admins) refused (λ w g.
      ReadBy g (λ s. ranges_at s roles admins) refused (λ m end. all end (rest t u v w m (places a.at b.at d.at e.at g.at end.at)))))))

  -- all are there, or the first that is refused is the tables' refusal
  pub tables_read : (s : List ℕ) (a : ℕ) (all : ℕ → Rest → Type 0) {G : Type 0} → TablesAt s a all
      → ((n : NumberError) → refused n → rest_at s roles admins a ≡ stop (number_of n) (place_of n) → G)
      → ((end : ℕ) (r : Rest) → all end r → rest_at s roles admins a ≡ go end r → G) → G
  tables_read s a all k ended read =
      either k (λ n h q. ended n q (no_assign s roles admins a (sym h))) (λ t b h k.
      let assign = sym h in
      either k (λ n h q. ended n q (no_revoke s roles admins a assign (sym h))) (λ u d h k.
      let revoke = sym h in
      either k (λ n h q. ended n q (no_assignp s roles admins a assign revoke (sym h))) (λ v e h k.
      let assignp = sym h in
      either k (λ n h q. ended n q (no_revokep s roles admins a assign revoke assignp (sym h))) (λ w g h k.
      let revokep = sym h in
      either k (λ n h q. ended n q (no_modify s roles admins a assign revoke assignp revokep (sym h))) (λ m end h k.
      read end (rest t u v w m (places a b d e g end)) k (rest_read s roles admins a assign revoke assignp revokep (sym h)))))))

  -- what a reader reads stands at its places
  pub at_places : (a : Reader) {s : Bor (List ℕ)} (all : Reader → Rest → Type 0) (then : ℕ → Rest → Type 0) → a.bytes ≡ s → TablesBy a all
      → ((end : Reader) (r : Rest) → end.bytes ≡ s → all end r → then end.at r) → TablesAt s.now a.at then
  at_places a all then on k f =
      at_place on k (λ t b on k. at_place on k (λ u d on k. at_place on k (λ v e on k. at_place on k (λ w g on k.
      at_place on k (λ m end on k. f end (rest t u v w m (places a.at b.at d.at e.at g.at end.at)) on k)))))

-- f is what stood in the file before the tables, y what is answered, and x the file
module _ (f : Front) (y : Result ℕ NumberError) (x : File) where
  abbrev Filled : ℕ → Rest → Type 0
  Filled end r = (y ≡ Ok end) × (x ≡ file f r)

  pub rest_given : (a : Reader) (roles admins : ℕ) → TablesBy roles admins (Fails y) a (λ end. Filled end.at)
      → RestGiven (rest_at a.bytes.now roles admins a.at) f y x
  rest_given a roles admins k =
      tables_read roles admins _ a.bytes.now a.at Filled (at_places roles admins _ a (λ end. Filled end.at) Filled refl k (λ end r on h. h))
      (λ n h q. rest_stops f x y n h q) (λ end r h q. rw h.0 (r, q, h.1))

-- ---- the whole

pub file_stops : {w : Step File} (x : File) (r : Result ⊤ FileError) (e : NumberError) → IsErrAnd r (λ f. f ≡ Number e)
    → w ≡ stop (number_of e) (place_of e) → FileGiven w r x
file_stops x (Ok u) e h q = absurd h
file_stops x (Err f) e h q = rw h q

pub how_stops : (r : Result ⊤ FileError) (e : FileError) → IsErrAnd r (λ f. f ≡ e) → as_how r ≡ as_how (Err e)
how_stops (Ok u) e h = absurd h
how_stops (Err f) e h = rw h

-- of two that are looked at: the first where it is refused, the next where it is not
pub first_stops : (t : Bool) (c p n q : ℕ) (h : How) → how.Refused n q ≡ pick t (how.Refused c p) how.Accepted
    → how.Refused n q ≡ pick t (how.Refused c p) h
first_stops true c p n q h e = e
first_stops false c p n q h e = absurd (let z : ◌≡◌ {A = ℕ} 0 1 = cc in omega arith)

pub next_asked : (t : Bool) (c p : ℕ) (h : How) → how.Accepted ≡ pick t (how.Refused c p) how.Accepted → h ≡ pick t (how.Refused c p) h
next_asked true c p h e = absurd (let z : ◌≡◌ {A = ℕ} 0 1 = cc in omega arith)
next_asked false c p h e = refl

-- all is read: what is looked at then
pub judged_so : (s : List ℕ) (end : ℕ) (f : Front) (x : Rest) (r : Result ⊤ FileError) → as_how r ≡ judgement s end f.orders x.modify
    → FileGiven (judge s end f x) r (file f x)
unfolding judge judgement
judged_so s end f x r = by (ltb end (length s)) (eqb n 0) r
  where
    n : ℕ
    n = fault f.orders x.modify

    by : (t u : Bool) (r : Result ⊤ FileError) → as_how r ≡ pick t (how.Refused 27 end) (pick u how.Accepted (how.Refused n 0))
        → FileGiven (pick t (stop 27 end) (pick u (go end (file f x)) (stop n 0))) r (file f x)
    by true u (Ok v) q = absurd (let z : ◌≡◌ {A = ℕ} 0 1 = cc in omega arith)
    by true u (Err e) q = cc
    by false true (Ok v) q = (end, refl)
    by false true (Err e) q = absurd (let z : ◌≡◌ {A = ℕ} 0 1 = cc in omega arith)
    by false false (Ok v) q = absurd (let z : ◌≡◌ {A = ℕ} 0 1 = cc in omega arith)
    by false false (Err e) q = cc

module _ (s : List ℕ) where
  pub front_refused : {c p : ℕ} → front_at s 0 ≡ stop c p → file_at s ≡ stop c p
  unfolding file_at
  front_refused k = rw k

  module _ {a : ℕ} {f : Front} (k : front_at s 0 ≡ go a f) where
    pub rest_refused : {c p : ℕ} → rest_at s f.orders.roles.used f.orders.admins.used a ≡ stop c p → file_at s ≡ stop c p
    unfolding file_at
    rest_refused l = rw (k, l)

    pub file_read : {end : ℕ} {x : Rest} → rest_at s f.orders.roles.used f.orders.admins.used a ≡ go end x → file_at s ≡ judge s end f x
    unfolding file_at
    file_read l = rw (k, l)

-- the same from the first byte to the last, where the reader past the sections stands on the file
pub file_went : (s : Bor (List ℕ)) (r a : Reader) {f : Front} {end : ℕ} {x : Rest} → r ≡ standing s 0
    → front_at r.bytes.now r.at ≡ go a.at f → a.bytes ≡ r.bytes
    → rest_at a.bytes.now f.orders.roles.used f.orders.admins.used a.at ≡ go end x → file_at s.now ≡ judge s.now end f x
file_went s r a {f} e front on rest =
    let here = rw e at front in
    let on_s : a.bytes ≡ s = on ∙ ap (λ (k : Reader). k.bytes) e in
    file_read s.now here (read_on (λ l. rest_at l f.orders.roles.used f.orders.admins.used a.at) on_s (sym rest))

-- ---- the whole, in every case

-- the tables from a place on, and what is looked at once all is read
abbrev pub rest_on : List ℕ → ℕ → Front → Step File
rest_on s at f = on_step (rest_at s f.orders.roles.used f.orders.admins.used at) (λ end y. judge s end f y)

-- what is answered from the tables on, where this was answered of the sections before them: if they were refused, so is the file
abbrev pub Rested : (Reader → Step File) → Result Reader NumberError → Result ⊤ FileError → File → Type 0
Rested w (Ok a) z x = FileGiven (w a) z x
Rested w (Err n) z x = Fails z (Number n)

-- p is what the sections before the tables were read into, z what is answered, and x the file
module _ (p : Policy) (z : Result ⊤ FileError) (x : File) where
  -- all is read up to `end`
  abbrev pub Judged : List ℕ → ℕ → Rest → Type 0
  Judged s end y = (as_how z ≡ judgement s end p.orders y.modify) × (x ≡ file (front_of p) y)

  module _ (roles admins : ℕ) where
    -- what the tables answer and what is looked at then; where the sections before them were refused, they are not read
    abbrev pub RestAt : List ℕ → Result Reader NumberError → Type 0
    RestAt s (Ok a) = TablesAt roles admins (λ n. Fails z (Number n)) s a.at (Judged s)
    RestAt s (Err n) = Fails z (Number n)

    abbrev pub RestBy : Result Reader NumberError → Type 0
    RestBy (Ok a) = TablesBy roles admins (λ n. Fails z (Number n)) a (λ end. Judged end.bytes.now end.at)
    RestBy (Err n) = Fails z (Number n)

    -- what is answered of both
    pub rest_joined : (s : List ℕ) (front : Result Reader NumberError) → RestAt s front
        → Rested (λ a. on_step (rest_at s roles admins a.at) (λ end y. judge s end (front_of p) y)) front z x
    rest_joined s (Err n) k = k
    rest_joined s (Ok a) k =
        tables_read roles admins _ s a.at (Judged s) k (λ n h q. file_stops x z n h (rw q))
        (λ end y h q. rw (q, h.1) (judged_so s end (front_of p) y z h.0))

    -- the same of readers
    pub rest_passed : (front : Result Reader NumberError) → RestBy front
        → Rested (λ a. on_step (rest_at a.bytes.now roles admins a.at) (λ end y. judge a.bytes.now end (front_of p) y)) front z x
    rest_passed (Err n) k = k
    rest_passed (Ok a) k =
        rest_joined a.bytes.now (Ok a)
        (at_places roles admins _ a (λ end. Judged end.bytes.now end.at) (Judged a.bytes.now) refl k
        (λ end y on h. (h.0 ∙ ap (λ (s : Bor (List ℕ)). judgement s.now end.at p.orders y.modify) on, h.1)))

  -- from the first byte to the last
  pub file_joined : (s : Bor (List ℕ)) (front : Result Reader NumberError) → FrontGiven (front_at s.now 0) s front p
      → Rested (λ a. rest_on s.now a.at (front_of p)) front z x → FileGiven (file_at s.now) z x
  unfolding file_at
  file_joined s (Err n) q k = file_stops x z n k (front_refused s.now q)
  file_joined s (Ok a) q k = rw q.0 k

  -- the same of readers: the first stands before the first byte
  pub file_passed : (s : Bor (List ℕ)) (r : Reader) → r ≡ standing s 0 → (front : Result Reader NumberError)
      → FrontGiven (front_at r.bytes.now r.at) r.bytes front p → Rested (λ a. rest_on a.bytes.now a.at (front_of p)) front z x
      → FileGiven (file_at s.now) z x
  file_passed s r e front q k = let here = rw e at q in file_joined s front here (by front here k)
    where
      by : (front : Result Reader NumberError) → FrontGiven (front_at s.now 0) s front p
          → Rested (λ a. rest_on a.bytes.now a.at (front_of p)) front z x → Rested (λ a. rest_on s.now a.at (front_of p)) front z x
      by (Err n) q k = k
      by (Ok a) q k = rw q.1 at k

-- the can-modify table that was read is within its size
pub ranges_fit : (s : List ℕ) (roles admins a : ℕ) {end : ℕ} {x : Rest} → rest_at s roles admins a ≡ go end x → x.modify.count ≤ 64
ranges_fit s roles admins a q = (ranges_right s roles admins _ (rest_steps s roles admins a q).modify).size
