-- What a section's fields say is read, beside what was read before.
use Rattle.std.proofs.Common.{◌≡◌, ℕ, ◌^◌, ◌≤◌, true, false, List, [], ◌∷◌, Option, Some, None, Ok, refl, sym, ap, ◌∙◌, arith}
use Rattle.std.specs.Prelude.{is_some, unwrap_or}
use Rattle.fp_base.specs.declared.ids.Die.TheVariants.{Top, Bottom}
use Rattle.fp_text.specs.Words.{Word}
use Rattle.fp_text.specs.Reading.{Left, number_next}
use Rattle.fp_text.specs.ReadingLaws.{left_of}
use Rattle.fp_text.specs.declared.fault.Kind.{Kind}
use Rattle.fp_text.specs.declared.fault.Kind.TheVariants as kinds
use Rattle.fp_contest_in.specs.declared.section.Section.{Section}
use Rattle.fp_contest_in.specs.declared.section.Section.TheVariants.{DieSize, MaxUtil, Rows, Tech, TerminalSize, TerminalSpacing, TerminalCost}
use Rattle.fp_contest_in.specs.declared.section.RowsFound.{RowsFound}
use Rattle.fp_contest_in.specs.declared.section.DieFound.{DieFound}
use Rattle.fp_contest_in.specs.declared.section.Found.{Found}
use Rattle.fp_contest_in.specs.declared.section.Setup.{Setup}
use Rattle.fp_contest_in.specs.Text.{TechText, tech_name_list}
use Rattle.fp_contest_in.specs.Grammar.{Numbers, ranged, most_number, HasFields, section_number}
use Rattle.fp_contest_in.specs.Statements.{fields_next, set_die, has_section, bits, setup_of, no_frame, no_rows}
use Rattle.fp_contest_in.specs.TakenLaws.{number_again}
use Rattle.fp_contest_in.specs.TechsLaws.{sizes_again}
use Rattle.fp_contest_in.specs.BitsLaws.{with_bit, HasNeeded}
use Rattle.fp_contest_in.specs.NamesLaws.{AreNew}
use Rattle.fp_contest_in.specs.Statements.{die_spec}
use Rattle.fp_tech.specs.declared.dies.DieSpec.{DieSpec}
use Rattle.fp_contest_in.specs.FieldsLaws.{rows_at, frame_again, rows_again, tech_again}

-- a fact of a value, if there is one
abbrev pub Agreed : {A : Type 0} → Option A → (A → Type 0) → Type 0
Agreed None fact = Unit {0}
Agreed (Some x) fact = fact x

agreed_at : {A : Type 0} (o : Option A) (d : A) (fact : A → Type 0) → is_some o ≡ true → Agreed o fact → fact (unwrap_or o d)
agreed_at None d fact e a = absurd cc
agreed_at (Some x) d fact e a = a

-- rows as a die has them
pub record SameRows (spec : DieSpec) (rows : RowsFound) : Type 0 where
  pub start_x : rows.start_x ≡ spec.start_x
  pub start_y : rows.start_y ≡ spec.start_y
  pub long : rows.length ≡ spec.length
  pub high : rows.height ≡ spec.height
  pub many : rows.repeat ≡ spec.repeat

-- what was read is what the setup says
pub record Agrees (setup : Setup) (f : Found) : Type 0 where
  pub frame : Agreed f.frame (λ frame. frame ≡ setup.frame)
  pub top_percent : Agreed f.top.percent (λ n. n ≡ setup.top.percent)
  pub bottom_percent : Agreed f.bottom.percent (λ n. n ≡ setup.bottom.percent)
  pub top_rows : Agreed f.top.rows (SameRows setup.top)
  pub bottom_rows : Agreed f.bottom.rows (SameRows setup.bottom)
  pub top_tech : Agreed f.top.tech (λ tech. tech ≡ setup.top.tech)
  pub bottom_tech : Agreed f.bottom.tech (λ tech. tech ≡ setup.bottom.tech)
  pub size : Agreed f.size (λ size. size ≡ (setup.terminal.size_x, setup.terminal.size_y))
  pub spacing : Agreed f.spacing (λ n. n ≡ setup.terminal.spacing)
  pub cost : Agreed f.cost (λ n. n ≡ setup.terminal.cost)

spec_is : (spec : DieSpec) (die : DieFound) → is_some die.percent ≡ true → is_some die.rows ≡ true → is_some die.tech ≡ true
    → Agreed die.percent (λ n. n ≡ spec.percent) → Agreed die.rows (SameRows spec) → Agreed die.tech (λ tech. tech ≡ spec.tech) → die_spec die ≡ spec
spec_is spec die a b c p r t =
    let percent = agreed_at die.percent 0 (λ n. n ≡ spec.percent) a p in
    let rows = agreed_at die.rows no_rows (SameRows spec) b r in
    let tech = agreed_at die.tech (record { 0 = 0 }) (λ x. x ≡ spec.tech) c t in
    λ i. record {
      percent = percent i;
      tech = tech i;
      start_x = rows.start_x i;
      start_y = rows.start_y i;
      length = rows.long i;
      height = rows.high i;
      repeat = rows.many i;
    }

-- once the nine are read, the frame and both dies are the setup's
pub record SameDies (setup : Setup) (f : Found) : Type 0 where
  pub frame : (setup_of f).frame ≡ setup.frame
  pub top : (setup_of f).top ≡ setup.top
  pub bottom : (setup_of f).bottom ≡ setup.bottom

pub dies_are : (setup : Setup) (f : Found) → HasNeeded f → Agrees setup f → SameDies setup f
dies_are setup f all a = record {
  frame = agreed_at f.frame no_frame (λ frame. frame ≡ setup.frame) (all DieSize refl) a.frame;
  top = spec_is setup.top f.top (all (MaxUtil Top) refl) (all (Rows Top) refl) (all (Tech Top) refl) a.top_percent a.top_rows a.top_tech;
  bottom = spec_is setup.bottom f.bottom (all (MaxUtil Bottom) refl) (all (Rows Bottom) refl) (all (Tech Bottom) refl) a.bottom_percent a.bottom_rows a.bottom_tech;
}

-- a cost that was not told is 0
cost_is : (o : Option ℕ) (cost : ℕ) → Agreed o (λ n. n ≡ cost) → (is_some o ≡ false → cost ≡ 0) → unwrap_or o 0 ≡ cost
cost_is None cost a none = sym (none refl)
cost_is (Some n) cost a none = a

-- once the nine are read, and the cost where it is told, they are the setup
pub setup_is : (setup : Setup) (f : Found) → HasNeeded f → (has_section f TerminalCost ≡ false → setup.terminal.cost ≡ 0) → Agrees setup f → setup_of f ≡ setup
setup_is setup f all no_cost a =
    let dies = dies_are setup f all a in
    let size = agreed_at f.size (0, 0) (λ size. size ≡ (setup.terminal.size_x, setup.terminal.size_y)) (all TerminalSize refl) a.size in
    let spacing = agreed_at f.spacing 0 (λ n. n ≡ setup.terminal.spacing) (all TerminalSpacing refl) a.spacing in
    let cost = cost_is f.cost setup.terminal.cost a.cost no_cost in
    λ i. record {
      frame = dies.frame i;
      top = dies.top i;
      bottom = dies.bottom i;
      terminal = record { size_x = (size i).0; size_y = (size i).1; spacing = spacing i; cost = cost i };
    }

-- the rows that a die has
abbrev rows_in : DieSpec → RowsFound
rows_in spec = record { at = 0; start_x = spec.start_x; start_y = spec.start_y; length = spec.length; height = spec.height; repeat = spec.repeat }

-- fields that are spelled are read
pub record FieldsRead (names : List (List ℕ)) (setup : Setup) (section : Section) (at : ℕ) (found : Found) (l : Left) (rest : List Word) : Type 0 where
  pub found_then : Found
  pub read : fields_next names section at found l ≡ Ok (found_then, left_of l rest)
  pub set : bits found_then ≡ with_bit (bits found) (section_number section)
  pub agrees : Agrees setup found_then

-- one number of a list
one_again : (least most : ℕ) (above : Kind) (l : Left) (n : ℕ) (rest : List Word) → Numbers (ranged least most n ∷ []) l.words rest → most ≤ 2 ^ 30 → number_next least most above l ≡ Ok (n, left_of l rest)
one_again least most above l n rest t low = number_again least most above l n rest (t.0, t.2 ∙ ap (λ (ws : List Word). t.0 ∷ ws) t.4, t.3) low

pub fields_again : (techs : List TechText) (setup : Setup) (section : Section) (at : ℕ) (found : Found) (l : Left) (rest : List Word) → AreNew [] (tech_name_list techs)
    → Agrees setup found → HasFields techs setup section l.words rest → FieldsRead (tech_name_list techs) setup section at found l rest
unfolding fields_next
fields_again techs setup DieSize at found l rest new a says = record {
  found_then = record found { frame = Some setup.frame };
  read = rw (frame_again l setup.frame rest says) refl;
  set = refl;
  agrees = record {
    frame = refl;
    top_percent = a.top_percent;
    bottom_percent = a.bottom_percent;
    top_rows = a.top_rows;
    bottom_rows = a.bottom_rows;
    top_tech = a.top_tech;
    bottom_tech = a.bottom_tech;
    size = a.size;
    spacing = a.spacing;
    cost = a.cost;
  };
}
fields_again techs setup (MaxUtil Top) at found l rest new a says = record {
  found_then = set_die found Top (record found.top { percent = Some setup.top.percent });
  read = rw (one_again 0 100 kinds.Range l setup.top.percent rest says (omega arith)) refl;
  set = refl;
  agrees = record {
    frame = a.frame;
    top_percent = refl;
    bottom_percent = a.bottom_percent;
    top_rows = a.top_rows;
    bottom_rows = a.bottom_rows;
    top_tech = a.top_tech;
    bottom_tech = a.bottom_tech;
    size = a.size;
    spacing = a.spacing;
    cost = a.cost;
  };
}
fields_again techs setup (Rows Top) at found l rest new a says = record {
  found_then = set_die found Top (record found.top { rows = Some (rows_at at (rows_in setup.top)) });
  read = rw (rows_again at l (rows_in setup.top) rest says) refl;
  set = refl;
  agrees = record {
    frame = a.frame;
    top_percent = a.top_percent;
    bottom_percent = a.bottom_percent;
    top_rows = record { start_x = refl; start_y = refl; long = refl; high = refl; many = refl };
    bottom_rows = a.bottom_rows;
    top_tech = a.top_tech;
    bottom_tech = a.bottom_tech;
    size = a.size;
    spacing = a.spacing;
    cost = a.cost;
  };
}
fields_again techs setup (Tech Top) at found l rest new a says = record {
  found_then = set_die found Top (record found.top { tech = Some setup.top.tech });
  read = rw (tech_again techs l setup.top.tech.0 rest new says) refl;
  set = refl;
  agrees = record {
    frame = a.frame;
    top_percent = a.top_percent;
    bottom_percent = a.bottom_percent;
    top_rows = a.top_rows;
    bottom_rows = a.bottom_rows;
    top_tech = refl;
    bottom_tech = a.bottom_tech;
    size = a.size;
    spacing = a.spacing;
    cost = a.cost;
  };
}
fields_again techs setup (MaxUtil Bottom) at found l rest new a says = record {
  found_then = set_die found Bottom (record found.bottom { percent = Some setup.bottom.percent });
  read = rw (one_again 0 100 kinds.Range l setup.bottom.percent rest says (omega arith)) refl;
  set = refl;
  agrees = record {
    frame = a.frame;
    top_percent = a.top_percent;
    bottom_percent = refl;
    top_rows = a.top_rows;
    bottom_rows = a.bottom_rows;
    top_tech = a.top_tech;
    bottom_tech = a.bottom_tech;
    size = a.size;
    spacing = a.spacing;
    cost = a.cost;
  };
}
fields_again techs setup (Rows Bottom) at found l rest new a says = record {
  found_then = set_die found Bottom (record found.bottom { rows = Some (rows_at at (rows_in setup.bottom)) });
  read = rw (rows_again at l (rows_in setup.bottom) rest says) refl;
  set = refl;
  agrees = record {
    frame = a.frame;
    top_percent = a.top_percent;
    bottom_percent = a.bottom_percent;
    top_rows = a.top_rows;
    bottom_rows = record { start_x = refl; start_y = refl; long = refl; high = refl; many = refl };
    top_tech = a.top_tech;
    bottom_tech = a.bottom_tech;
    size = a.size;
    spacing = a.spacing;
    cost = a.cost;
  };
}
fields_again techs setup (Tech Bottom) at found l rest new a says = record {
  found_then = set_die found Bottom (record found.bottom { tech = Some setup.bottom.tech });
  read = rw (tech_again techs l setup.bottom.tech.0 rest new says) refl;
  set = refl;
  agrees = record {
    frame = a.frame;
    top_percent = a.top_percent;
    bottom_percent = a.bottom_percent;
    top_rows = a.top_rows;
    bottom_rows = a.bottom_rows;
    top_tech = a.top_tech;
    bottom_tech = refl;
    size = a.size;
    spacing = a.spacing;
    cost = a.cost;
  };
}
fields_again techs setup TerminalSize at found l rest new a says = record {
  found_then = record found { size = Some (setup.terminal.size_x, setup.terminal.size_y) };
  read = rw (sizes_again l (setup.terminal.size_x, setup.terminal.size_y) rest says) refl;
  set = refl;
  agrees = record {
    frame = a.frame;
    top_percent = a.top_percent;
    bottom_percent = a.bottom_percent;
    top_rows = a.top_rows;
    bottom_rows = a.bottom_rows;
    top_tech = a.top_tech;
    bottom_tech = a.bottom_tech;
    size = refl;
    spacing = a.spacing;
    cost = a.cost;
  };
}
fields_again techs setup TerminalSpacing at found l rest new a says = record {
  found_then = record found { spacing = Some setup.terminal.spacing };
  read = rw (one_again 0 most_number kinds.Range l setup.terminal.spacing rest says (omega arith)) refl;
  set = refl;
  agrees = record {
    frame = a.frame;
    top_percent = a.top_percent;
    bottom_percent = a.bottom_percent;
    top_rows = a.top_rows;
    bottom_rows = a.bottom_rows;
    top_tech = a.top_tech;
    bottom_tech = a.bottom_tech;
    size = a.size;
    spacing = refl;
    cost = a.cost;
  };
}
fields_again techs setup TerminalCost at found l rest new a says = record {
  found_then = record found { cost = Some setup.terminal.cost };
  read = rw (one_again 0 most_number kinds.Range l setup.terminal.cost rest says (omega arith)) refl;
  set = refl;
  agrees = record {
    frame = a.frame;
    top_percent = a.top_percent;
    bottom_percent = a.bottom_percent;
    top_rows = a.top_rows;
    bottom_rows = a.bottom_rows;
    top_tech = a.top_tech;
    bottom_tech = a.bottom_tech;
    size = a.size;
    spacing = a.spacing;
    cost = refl;
  };
}
