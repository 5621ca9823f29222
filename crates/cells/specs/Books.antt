-- A book as the lists that it lends.
use Rattle.margin.specs.Book as margin
use Rattle.cells.specs.declared.book.Book.{Book}

abbrev pub book_of : Book → margin.Book
book_of b = record { positions = b.positions.now; orders = b.orders.now }
