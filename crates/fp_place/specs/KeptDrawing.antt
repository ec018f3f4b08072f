-- How a drawn placement is kept.
use Rattle.fp_place.specs.declared.drawn.Drawn.TheInside.{Inside}
use Rattle.fp_place.specs.Drawing.{Drawing}

abbrev pub drawing_kept : Inside → Drawing
drawing_kept d = record { top = d.top.items; bottom = d.bottom.items; terminals = d.terminals.items }
