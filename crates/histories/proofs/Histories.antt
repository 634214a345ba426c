-- By induction over the calls: the walk stands at the first rows of the model, and the model is the one of the last retune.
-- Assumes nothing.
use Rattle.std.proofs.Common.{◌≡◌, ℕ, suc, ◌<◌, ◌≤◌, List, [], ◌∷◌, ◌++◌, length, ℤ, Some, None, Ok, Err, Option, Result, unwrap_or, sym, refl, ap, ◌∙◌, subst, arith}
use Rattle.models.specs.Answers.{Encodes, Lists, Searches}
use Rattle.models.specs.Heights.{Height, Lawful}
use Rattle.models.specs.Meaning.{Meaning, Partition, Holds}
use Rattle.models.specs.declared.fault.ModelFault.{ModelFault}
use Rattle.models.proofs.Cuts.{span_fits, holds_some, holds_one, holds_bound}
use Rattle.quantize.specs.Quantized.{quantized}
use Rattle.quantize.specs.Starts.{quantized_cuts}
use Rattle.uniform.specs.Uniform.{uniform}
use Rattle.uniform.specs.EvenCuts.{even_cuts}
use Rattle.channel.specs.Events.{rows_in, Event, asked, stepped, filled, rewound, retuned, handed_after, handed, tuning, heights_after, Untuned}
use Rattle.histories.specs.Promises.{Kept, Opening, opened, means_after, EveryHistory, EveryUniformHistory}
use Rattle.channel.specs.Rows.{Row, row_of, first_rows}
use Rattle.channel.specs.Steps.{State, at, itself, Step, Run, Retuned}
use Rattle.histories.proofs.Walks.{is_row, filled_rows, first_rows_length}

-- the rows handed out are the first ones of a lawful model
record Walked (s : State) (rows : List Row) : Type 0 where
  cuts : Partition s.means
  first : rows ≡ first_rows s.means s.row
  few : s.row ≤ suc s.means.span

retuned_cuts : (m : Meaning) (h : Height) (m' : Meaning) → Partition m → Retuned m h m' → Partition m'
retuned_cuts m h m' cuts r =
    subst Partition (sym r.means)
    (quantized_cuts m.low m.span m.bits h r.lawful r.from r.to r.narrow cuts.some (span_fits m cuts))

-- one call on
goes : (s t : State) (rows : List Row) (e : Event) → Walked s rows → Step s e t → Walked t (handed_after rows (e ∷ []))
goes s t rows (asked a) w step = subst (λ x. Walked x rows) (sym step.0) w
goes s t rows (stepped None) w step = subst (λ x. Walked x rows) (sym step.0) w
goes s t rows (stepped (Some r)) w step =
    subst (λ x. Walked x (rows ++ r ∷ [])) (sym step.0)
    (record {
      cuts = w.cuts;
      first = ap (λ xs. xs ++ r ∷ []) w.first ∙ ap (λ x. first_rows s.means s.row ++ x ∷ []) (is_row s.means s.row r step.1);
      few = omega (arith, step.1.at.within);
    })
goes s t rows (filled before after n) w step =
    subst (λ x. Walked x (rows ++ rows_in after n)) (sym step.0)
    (record {
      cuts = w.cuts;
      first = ap (λ xs. xs ++ rows_in after n) w.first ∙ filled_rows s.means after s.row n step.1.rows;
      few = omega (arith, step.1.left, w.few);
    })
goes s t rows rewound w step =
    subst (λ x. Walked x []) (sym step) (record { cuts = w.cuts; first = refl; few = omega arith })
goes s t rows (retuned h) w step =
    record {
      cuts = retuned_cuts s.means h t.means w.cuts step.1;
      first = ap (first_rows t.means) (sym step.0);
      few = omega (arith, step.0);
    }

-- the first call, and then the others
handed_on : (rows : List Row) (e : Event) (es : List Event) → handed_after (handed_after rows (e ∷ [])) es ≡ handed_after rows (e ∷ es)
handed_on rows (asked a) es = refl
handed_on rows (stepped None) es = refl
handed_on rows (stepped (Some r)) es = refl
handed_on rows (filled before after n) es = refl
handed_on rows rewound es = refl
handed_on rows (retuned h) es = refl

walks : (s u : State) (rows : List Row) (es : List Event) → Walked s rows → Run s es u → Walked u (handed_after rows es)
walks s u rows [] w run = subst (λ x. Walked x rows) (sym run) w
walks s u rows (e ∷ es) w run =
    subst (Walked u) (handed_on rows e es)
    (walks run.0 u (handed_after rows (e ∷ [])) es (goes s run.0 rows e w run.1) run.2)

-- a call that hands over no heights leaves the meaning
keeps : (s t : State) (e : Event) → tuning e ≡ None → Step s e t → t.means ≡ s.means
keeps s t (asked a) none step = ap (λ (x : State). x.means) step.0
keeps s t (stepped None) none step = ap (λ (x : State). x.means) step.0
keeps s t (stepped (Some r)) none step = ap (λ (x : State). x.means) step.0
keeps s t (filled before after n) none step = ap (λ (x : State). x.means) step.0
keeps s t rewound none step = ap (λ (x : State). x.means) step
keeps s t (retuned h) none step = let z : ◌≡◌ {A = ℕ} 0 1 = cc in absurd (omega arith)

pub untuned : (m : Meaning) (s u : State) (es : List Event) → Untuned es → s.means ≡ m → Run s es u → u.means ≡ m
untuned m s u [] none e run = ap (λ (x : State). x.means) run ∙ e
untuned m s u (x ∷ es) none e run = untuned m run.0 u es none.1 (keeps s run.0 x none.0 run.1 ∙ e) run.2

-- and one that does puts them in the place of the old ones
module _ (low : ℤ) (span bits : ℕ) where
  tunes :
      (h : Height) (s t : State) (e : Event) → s.means ≡ quantized low span bits h → Step s e t
      → t.means ≡ quantized low span bits (unwrap_or (tuning e) h)
  tunes h s t (asked a) m step = keeps s t (asked a) refl step ∙ m
  tunes h s t (stepped a) m step = keeps s t (stepped a) refl step ∙ m
  tunes h s t (filled before after n) m step = keeps s t (filled before after n) refl step ∙ m
  tunes h s t rewound m step = keeps s t rewound refl step ∙ m
  tunes h s t (retuned h') m step = step.1.means ∙ ap (λ (x : Meaning). quantized x.low x.span x.bits h') m

  pub tuned :
      (h : Height) (s u : State) (es : List Event) → s.means ≡ quantized low span bits h → Run s es u
      → u.means ≡ quantized low span bits (heights_after h es)
  tuned h s u [] m run = ap (λ (x : State). x.means) run ∙ m
  tuned h s u (e ∷ es) m run = tuned (unwrap_or (tuning e) h) run.0 u es (tunes h s run.0 e m run.1) run.2

-- the heights stay lawful
lawful_tuning : (h : Height) (s t : State) (e : Event) → Lawful h → Step s e t → Lawful (unwrap_or (tuning e) h)
lawful_tuning h s t (asked a) law step = law
lawful_tuning h s t (stepped a) law step = law
lawful_tuning h s t (filled before after n) law step = law
lawful_tuning h s t rewound law step = law
lawful_tuning h s t (retuned h') law step = step.1.lawful

pub lawful_after : (h : Height) (s u : State) (es : List Event) → Lawful h → Run s es u → Lawful (heights_after h es)
lawful_after h s u [] law run = law
lawful_after h s u (e ∷ es) law run =
    lawful_after (unwrap_or (tuning e) h) run.0 u es (lawful_tuning h s run.0 e law run.1) run.2

-- A search answers with the row that holds its quantile.
pub search_finds :
    (m : Meaning) → Partition m → (q i : ℕ) (a : Result Row ModelFault) → Holds m q i → Searches itself itself m q a
    → a ≡ Ok (row_of m i)
search_finds m cuts q i (Ok r) h found =
    ap Ok (is_row m found.1.index r found.1.row ∙ ap (row_of m) (sym (found.1.only i h)))
search_finds m cuts q i (Err f) h refused = absurd (omega (arith, refused.0, holds_bound m cuts q i h))

-- Next says ended exactly past the last row.
ended_past : (m : Meaning) (i : ℕ) (a : Option Row) → Lists itself itself m i a → a ≡ None → m.span < i
ended_past m i None past none = past
ended_past m i (Some r) row none = let z : ◌≡◌ {A = ℕ} 0 1 = cc in absurd (omega arith)

past_ended : (m : Meaning) (i : ℕ) (a : Option Row) → Lists itself itself m i a → m.span < i → a ≡ None
past_ended m i None past none = refl
past_ended m i (Some r) row past = absurd (omega (arith, row.at.within, past))

-- all that a walk keeps, at the meaning that it stands at
kept : (m : Meaning) (es : List Event) (s : State) → s.means ≡ m → Walked s (handed es) → Kept m es s
kept m es s e w =
    let cuts : Partition m = subst Partition e w.cuts in
    let here : handed es ≡ first_rows m s.row = w.first ∙ ap (λ x. first_rows x s.row) e in
    let long : length (handed es) ≡ s.row = ap length here ∙ first_rows_length m s.row in
    let span : s.means.span ≡ m.span = ap (λ (x : Meaning). x.span) e in
    record {
      means = e;
      encodes = λ z a t step. subst (λ x. Encodes itself x z a) e step.1;
      covered = λ q h. holds_some m cuts q h;
      once = λ q i j. holds_one m cuts q i j;
      finds = λ q i a t h step. search_finds m cuts q i a h (subst (λ x. Searches itself itself x q a) e step.1);
      first = here ∙ ap (first_rows m) (sym long);
      few = omega (arith, long, w.few, span);
      ended = λ a t step none. omega (arith, long, w.few, span, ended_past s.means s.row a step.1 none);
      goes_on = λ a t step all. past_ended s.means s.row a step.1 (omega (arith, long, span, all));
    }

fresh : (m : Meaning) → Partition m → Walked (at m 0) []
fresh m cuts = record { cuts = cuts; first = refl; few = omega arith }

opening_cuts : (o : Opening) → Partition (quantized o.low o.span o.bits o.heights)
opening_cuts o =
    quantized_cuts o.low o.span o.bits o.heights o.lawful o.from o.to o.narrow o.some o.room

pub every_history : EveryHistory
every_history o es s run =
    kept (means_after o es) es s (tuned o.low o.span o.bits o.heights (opened o) s es refl run)
    (walks (opened o) s [] es (fresh _ (opening_cuts o)) run)

pub every_uniform_history : EveryUniformHistory
every_uniform_history bits range many room es s none run =
    kept (uniform bits range) es s (untuned (uniform bits range) (at (uniform bits range) 0) s es none refl run)
    (walks (at (uniform bits range) 0) s [] es (fresh _ (even_cuts bits range many room)) run)
